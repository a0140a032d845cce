-- The task of a command, by what was read.
use Rattle.std.proofs.Common.{◌≡◌, ◌⊎◌, inl, inr, ℕ, ◌<◌, ◌≤◌, List, [], Option, Some, None, Result, Ok, Err, refl, sym, subst, arith}
use Rattle.std.proofs.lemmas.Bool.{cases_lt}
use Rattle.std.specs.Prelude.{IfErr, IfOk, IfSome, OnOk}
use Rattle.far_base.specs.declared.kept.KeptItem.{KeptItem}
use Rattle.far_base.specs.declared.plan.TheConstants.{OP_LIMIT}
use Rattle.retry_link.specs.Link.{AreLinkEvents}
use Rattle.retry_link.specs.declared.link.LinkEvent.{LinkEvent}
use Rattle.workload.specs.Draws.{generated}
use Rattle.workload.specs.Plain.{IsPlain}
use Rattle.workload.specs.WorkView.{WorkView}
use Rattle.workload.specs.declared.fault.Limit.TheVariants.{Ops}
use Rattle.run_main.specs.Saying.{HasRead, IsApprovedOnly, IsAsked, IsEarlyFault, IsImageReadingFault, IsRead, IsReadImage, IsReadingFault, IsReportFault, SettlesImage, SettlesReading, SettlesReport, SettlesTask, IsReadScript, IsScriptReadingFault, SettlesScript}
use Rattle.run_main.specs.Tasks.{HasWholeOps, IsTask, IsRefusedFor}
use Rattle.run_main.specs.Top.{ReadFirst, ReadToEnd}
use Rattle.run_main.specs.declared.command.Command.TheVariants.{Replay, Image, Recover, Audit, Bulk, Link}
use Rattle.run_main.specs.declared.status.Status.{Status}
use Rattle.run_main.specs.declared.status.Status.TheVariants.{Done, Usage, BadLine, ReadFault, WriteFault, KeeperFault, Memory, TooLarge, BadImage, Conflict, Wrong}
use Rattle.run_main.specs.declared.task.Account.TheVariants.{Report, Summary}
use Rattle.run_main.specs.declared.task.Task.{Task}
use Rattle.run_main.specs.declared.task.Task.TheVariants.{Run, Keep, Merge, Approve, Tell}

pub if_some : (P Q : List ℕ → Type 0) (left : Option (List ℕ)) → ((input : List ℕ) → P input → Q input) → IfSome left P → IfSome left Q
if_some P Q None f h = tt
if_some P Q (Some input) f h = f input h

-- ---- a workload to be run to its end

replay_settles : (input : List ℕ) (work : WorkView) → SettlesReading input (Ok work) → SettlesTask Replay input (Ok (Run work Report))
replay_settles input work s = record { asked = λ task is. tt; refused = λ refusal h. s.refused refusal h }

replay_settles_none : (input : List ℕ) (status : Status) → SettlesReading input (Err status) → SettlesTask Replay input (Err status)
replay_settles_none input status s = record { asked = go; refused = λ refusal h. s.refused refusal h }
  where
    go : (task : Task) → IsTask Replay input task → status ≡ Memory
    go (Run work Report) is = s.workload work is
    go (Run work Summary) is = absurd is
    go (Keep work) is = absurd is
    go (Merge items) is = absurd is
    go Approve is = absurd is
    go (Tell events) is = absurd is

replay_early : (left : Option (List ℕ)) (rose : Type 0) (status : Status) → IsReadingFault left rose status → IsEarlyFault Replay left rose status
replay_early left rose (BadLine line) h = (tt, h)
replay_early left rose (TooLarge limit line) h = h
replay_early left rose (BadImage line) h = absurd h
replay_early left rose (Conflict line) h = absurd h
replay_early left rose (Wrong line) h = absurd h
replay_early left rose ReadFault h = (tt, h)
replay_early left rose Memory h = tt
replay_early left rose Done h = absurd h
replay_early left rose Usage h = absurd h
replay_early left rose WriteFault h = absurd h
replay_early left rose KeeperFault h = absurd h

pub replay_read : (left now : Option (List ℕ)) (rose : Type 0) (work : WorkView) → IfSome left (λ input. IsRead input work) → IsPlain work → HasWholeOps work.plan → ReadToEnd left now → HasRead Replay left now rose (Ok (Run work Report))
replay_read left now rose work read plain whole end = record {
  asked = if_some _ _ left (λ input r. let a : IsAsked Replay input (Run work Report) = record { is = r.is; settles = replay_settles input work r.settles } in a) read;
  kind = tt;
  ready = record { plain = plain; whole = λ is. whole };
  end = λ reads. end;
  cause = tt;
  first = tt;
  calm = λ quiet. if_some _ _ left (λ input r. replay_settles input work r.settles) read;
}

pub replay_not_read : (left now : Option (List ℕ)) (rose : Type 0) (status : Status) → IsReadingFault left rose status → ReadFirst left now status → (¬ rose → IfSome left (λ input. SettlesReading input (Err status))) → HasRead Replay left now rose (Err status)
replay_not_read left now rose status cause first calm = record {
  asked = tt;
  kind = tt;
  ready = tt;
  end = tt;
  cause = replay_early left rose status cause;
  first = λ reads. first;
  calm = λ quiet. if_some _ _ left (λ input s. replay_settles_none input status s) (calm (quiet tt));
}

-- ---- a workload to be run until a recovery begins

image_settles : (input : List ℕ) (work : WorkView) → SettlesReading input (Ok work) → SettlesTask Image input (Ok (Keep work))
image_settles input work s = record { asked = λ task is. tt; refused = λ refusal h. s.refused refusal h }

image_settles_none : (input : List ℕ) (status : Status) → SettlesReading input (Err status) → SettlesTask Image input (Err status)
image_settles_none input status s = record { asked = go; refused = λ refusal h. s.refused refusal h }
  where
    go : (task : Task) → IsTask Image input task → status ≡ Memory
    go (Run work account) is = absurd is
    go (Keep work) is = s.workload work is
    go (Merge items) is = absurd is
    go Approve is = absurd is
    go (Tell events) is = absurd is

image_early : (left : Option (List ℕ)) (rose : Type 0) (status : Status) → IsReadingFault left rose status → IsEarlyFault Image left rose status
image_early left rose (BadLine line) h = (tt, h)
image_early left rose (TooLarge limit line) h = h
image_early left rose (BadImage line) h = absurd h
image_early left rose (Conflict line) h = absurd h
image_early left rose (Wrong line) h = absurd h
image_early left rose ReadFault h = (tt, h)
image_early left rose Memory h = tt
image_early left rose Done h = absurd h
image_early left rose Usage h = absurd h
image_early left rose WriteFault h = absurd h
image_early left rose KeeperFault h = absurd h

pub image_read : (left now : Option (List ℕ)) (rose : Type 0) (work : WorkView) → IfSome left (λ input. IsRead input work) → IsPlain work → ReadToEnd left now → HasRead Image left now rose (Ok (Keep work))
image_read left now rose work read plain end = record {
  asked = if_some _ _ left (λ input r. let a : IsAsked Image input (Keep work) = record { is = r.is; settles = image_settles input work r.settles } in a) read;
  kind = tt;
  ready = plain;
  end = λ reads. end;
  cause = tt;
  first = tt;
  calm = λ quiet. if_some _ _ left (λ input r. image_settles input work r.settles) read;
}

pub image_not_read : (left now : Option (List ℕ)) (rose : Type 0) (status : Status) → IsReadingFault left rose status → ReadFirst left now status → (¬ rose → IfSome left (λ input. SettlesReading input (Err status))) → HasRead Image left now rose (Err status)
image_not_read left now rose status cause first calm = record {
  asked = tt;
  kind = tt;
  ready = tt;
  end = tt;
  cause = image_early left rose status cause;
  first = λ reads. first;
  calm = λ quiet. if_some _ _ left (λ input s. image_settles_none input status s) (calm (quiet tt));
}

-- ---- a kept list

recover_settles : (input : List ℕ) (items : List KeptItem) → SettlesImage input (Ok items) → SettlesTask Recover input (Ok (Merge items))
recover_settles input items s = record { asked = λ task is. tt; refused = λ refusal h. s.refused refusal h }

recover_settles_none : (input : List ℕ) (status : Status) → SettlesImage input (Err status) → SettlesTask Recover input (Err status)
recover_settles_none input status s = record { asked = go; refused = λ refusal h. s.refused refusal h }
  where
    go : (task : Task) → IsTask Recover input task → status ≡ Memory
    go (Run work account) is = absurd is
    go (Keep work) is = absurd is
    go (Merge items) is = s.image items is
    go Approve is = absurd is
    go (Tell events) is = absurd is

recover_early : (left : Option (List ℕ)) (rose : Type 0) (status : Status) → IsImageReadingFault left rose status → IsEarlyFault Recover left rose status
recover_early left rose (BadImage line) h = (tt, h)
recover_early left rose (Conflict line) h = (tt, h)
recover_early left rose (Wrong line) h = absurd h
recover_early left rose (TooLarge limit line) h = h
recover_early left rose (BadLine line) h = absurd h
recover_early left rose ReadFault h = (tt, h)
recover_early left rose Memory h = tt
recover_early left rose Done h = absurd h
recover_early left rose Usage h = absurd h
recover_early left rose WriteFault h = absurd h
recover_early left rose KeeperFault h = absurd h

pub recover_read : (left now : Option (List ℕ)) (rose : Type 0) (items : List KeptItem) → IfSome left (λ input. IsReadImage input items) → ReadToEnd left now → HasRead Recover left now rose (Ok (Merge items))
recover_read left now rose items read end = record {
  asked = if_some _ _ left (λ input r. let a : IsAsked Recover input (Merge items) = record { is = r.is; settles = recover_settles input items r.settles } in a) read;
  kind = tt;
  ready = tt;
  end = λ reads. end;
  cause = tt;
  first = tt;
  calm = λ quiet. if_some _ _ left (λ input r. recover_settles input items r.settles) read;
}

pub recover_not_read : (left now : Option (List ℕ)) (rose : Type 0) (status : Status) → IsImageReadingFault left rose status → ReadFirst left now status → (¬ rose → IfSome left (λ input. SettlesImage input (Err status))) → HasRead Recover left now rose (Err status)
recover_not_read left now rose status cause first calm = record {
  asked = tt;
  kind = tt;
  ready = tt;
  end = tt;
  cause = recover_early left rose status cause;
  first = λ reads. first;
  calm = λ quiet. if_some _ _ left (λ input s. recover_settles_none input status s) (calm (quiet tt));
}

-- ---- a report

audit_settles : (input : List ℕ) → IsApprovedOnly input → SettlesTask Audit input (Ok Approve)
audit_settles input a = record { asked = λ task is. tt; refused = λ refusal h. a.unrefused refusal h }

audit_settles_none : {T : Type 0} (input : List ℕ) (status : Status) → SettlesReport {T = T} input (Err status) → SettlesTask Audit input (Err status)
audit_settles_none input status s = record { asked = go; refused = λ refusal h. s.refused refusal h }
  where
    go : (task : Task) → IsTask Audit input task → status ≡ Memory
    go (Run work account) is = absurd is
    go (Keep work) is = absurd is
    go (Merge items) is = absurd is
    go (Tell events) is = absurd is
    go Approve is = s.approved is

audit_early : (left : Option (List ℕ)) (rose : Type 0) (status : Status) → IsReportFault left rose status → IsEarlyFault Audit left rose status
audit_early left rose (BadLine line) h = (tt, h)
audit_early left rose (TooLarge limit line) h = h
audit_early left rose (Wrong line) h = (tt, h)
audit_early left rose (BadImage line) h = absurd h
audit_early left rose (Conflict line) h = absurd h
audit_early left rose ReadFault h = (tt, h)
audit_early left rose Memory h = tt
audit_early left rose Done h = absurd h
audit_early left rose Usage h = absurd h
audit_early left rose WriteFault h = absurd h
audit_early left rose KeeperFault h = absurd h

pub audit_read : (left now : Option (List ℕ)) (rose : Type 0) → IfSome left IsApprovedOnly → ReadToEnd left now → HasRead Audit left now rose (Ok Approve)
audit_read left now rose read end = record {
  asked = if_some _ _ left (λ input r. let a : IsAsked Audit input Approve = record { is = r.is; settles = audit_settles input r } in a) read;
  kind = tt;
  ready = tt;
  end = λ reads. end;
  cause = tt;
  first = tt;
  calm = λ quiet. if_some _ _ left (λ input r. audit_settles input r) read;
}

pub audit_not_read : (T : Type 0) (left now : Option (List ℕ)) (rose : Type 0) (status : Status) → IsReportFault left rose status → ReadFirst left now status → (¬ rose → IfSome left (λ input. SettlesReport {T = T} input (Err status))) → HasRead Audit left now rose (Err status)
audit_not_read T left now rose status cause first calm = record {
  asked = tt;
  kind = tt;
  ready = tt;
  end = tt;
  cause = audit_early left rose status cause;
  first = λ reads. first;
  calm = λ quiet. if_some _ _ left (λ input s. audit_settles_none {T = T} input status s) (calm (quiet tt));
}

-- ---- the events of a link

link_settles : (input : List ℕ) (events : List LinkEvent) → SettlesScript input (Ok events) → SettlesTask Link input (Ok (Tell events))
link_settles input events s = record { asked = λ task is. tt; refused = λ refusal h. s.refused refusal h }

link_settles_none : (input : List ℕ) (status : Status) → SettlesScript input (Err status) → SettlesTask Link input (Err status)
link_settles_none input status s = record { asked = go; refused = λ refusal h. s.refused refusal h }
  where
    go : (task : Task) → IsTask Link input task → status ≡ Memory
    go (Run work account) is = absurd is
    go (Keep work) is = absurd is
    go (Merge items) is = absurd is
    go Approve is = absurd is
    go (Tell events) is = s.script events is

link_early : (left : Option (List ℕ)) (rose : Type 0) (status : Status) → IsScriptReadingFault left rose status → IsEarlyFault Link left rose status
link_early left rose (BadLine line) h = (tt, h)
link_early left rose (TooLarge limit line) h = h
link_early left rose (Wrong line) h = absurd h
link_early left rose (BadImage line) h = absurd h
link_early left rose (Conflict line) h = absurd h
link_early left rose ReadFault h = (tt, h)
link_early left rose Memory h = tt
link_early left rose Done h = absurd h
link_early left rose Usage h = absurd h
link_early left rose WriteFault h = absurd h
link_early left rose KeeperFault h = absurd h

pub link_read : (left now : Option (List ℕ)) (rose : Type 0) (events : List LinkEvent) → IfSome left (λ input. IsReadScript input events) → AreLinkEvents events → ReadToEnd left now → HasRead Link left now rose (Ok (Tell events))
link_read left now rose events read are end = record {
  asked = if_some _ _ left (λ input r. let a : IsAsked Link input (Tell events) = record { is = r.is; settles = link_settles input events r.settles } in a) read;
  kind = tt;
  ready = are;
  end = λ reads. end;
  cause = tt;
  first = tt;
  calm = λ quiet. if_some _ _ left (λ input r. link_settles input events r.settles) read;
}

pub link_not_read : (left now : Option (List ℕ)) (rose : Type 0) (status : Status) → IsScriptReadingFault left rose status → ReadFirst left now status → (¬ rose → IfSome left (λ input. SettlesScript input (Err status))) → HasRead Link left now rose (Err status)
link_not_read left now rose status cause first calm = record {
  asked = tt;
  kind = tt;
  ready = tt;
  end = tt;
  cause = link_early left rose status cause;
  first = λ reads. first;
  calm = λ quiet. if_some _ _ left (λ input s. link_settles_none input status s) (calm (quiet tt));
}

-- ---- a generated workload

module _ (start ops : ℕ) (left : Option (List ℕ)) (rose : Type 0) where
  read : ops ≤ OP_LIMIT → IsPlain (generated start ops) → HasRead (Bulk start ops) left left rose (Ok (Run (generated start ops) Summary))
  read few plain = record {
    asked = record { is = (few, refl); settles = settles };
    kind = tt;
    ready = record { plain = plain; whole = λ is. absurd (let z : Summary ≡ Report = is in cc) };
    end = λ reads. absurd reads;
    cause = tt;
    first = tt;
    calm = λ quiet. settles;
  }
    where
      settles : SettlesTask (Bulk start ops) [] (Ok (Run (generated start ops) Summary))
      settles = record { asked = λ task is. tt; refused = λ refusal h. let more : OP_LIMIT < ops = h.0 in omega arith }

  too_large : OP_LIMIT < ops → HasRead (Bulk start ops) left left rose (Err (TooLarge Ops 0))
  too_large many = record {
    asked = tt;
    kind = tt;
    ready = tt;
    end = tt;
    cause = ((refl, refl), (many, refl));
    first = λ reads. absurd reads;
    calm = λ quiet. record { asked = asked; refused = λ refusal h. inl (sym h.1) };
  }
    where
      asked : (task : Task) → IsTask (Bulk start ops) [] task → TooLarge Ops 0 ≡ Memory
      asked (Keep work) is = absurd is
      asked (Merge items) is = absurd is
      asked Approve is = absurd is
      asked (Tell events) is = absurd is
      asked (Run work Report) is = absurd is
      asked (Run work Summary) is = let few : ops ≤ OP_LIMIT = is.0 in absurd (omega arith)

  no_memory : HasRead (Bulk start ops) left left rose (Err Memory)
  no_memory = record {
    asked = tt;
    kind = tt;
    ready = tt;
    end = tt;
    cause = tt;
    first = λ reads. absurd reads;
    calm = λ quiet. record { asked = λ task is. refl; refused = λ refusal h. inr refl };
  }

  pub bulk_read : (result : Result Task Status) → IfOk result (λ task. task ≡ Run (generated start ops) Summary) → OnOk result (IsPlain (generated start ops)) → OnOk result (ops ≤ OP_LIMIT) → IfErr result (λ status. OP_LIMIT < ops → status ≡ TooLarge Ops 0)
      → IfErr result (λ status. ops ≤ OP_LIMIT → status ≡ Memory) → HasRead (Bulk start ops) left left rose result
  bulk_read (Ok task) is plain few many memory = subst (λ (t : Task). HasRead (Bulk start ops) left left rose (Ok t)) (sym is) (read few plain)
  bulk_read (Err status) is plain few many memory = go (cases_lt OP_LIMIT ops)
    where
      go : (OP_LIMIT < ops) ⊎ (ops ≤ OP_LIMIT) → HasRead (Bulk start ops) left left rose (Err status)
      go (inl h) = subst (λ (s : Status). HasRead (Bulk start ops) left left rose (Err s)) (sym (many h)) (too_large h)
      go (inr h) = subst (λ (s : Status). HasRead (Bulk start ops) left left rose (Err s)) (sym (memory h)) no_memory
