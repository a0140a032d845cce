-- How many packets of each kind have come to a running switch since the opening.
use Rattle.std.specs.Prelude.{ℕ, suc, List, replicate, slice_index_or, slice_set, Option, None, Some}
use Rattle.far_base.specs.declared.packet.Packet.{Packet}
use Rattle.far_base.specs.declared.packet.Packet.TheVariants.{GetReq, WriteReq, GetRep, WriteRep, Admit, Peek, Remove}
use Rattle.far_base.specs.declared.packet.Packet.TheVariants.{SnapStart, SnapRead, SnapFrom}
use Rattle.far_base.specs.declared.plan.PassKind.{PassKind}
use Rattle.far_base.specs.declared.plan.PassKind.TheVariants.{GetReq as GetReqPass, WriteReq as WriteReqPass}
use Rattle.far_base.specs.declared.plan.PassKind.TheVariants.{GetRep as GetRepPass, WriteRep as WriteRepPass}
use Rattle.far_base.specs.declared.plan.PassKind.TheVariants.{Admit as AdmitPass, Peek as PeekPass}
use Rattle.far_base.specs.declared.plan.PassKind.TheVariants.{Remove as RemovePass, SnapStart as SnapStartPass}
use Rattle.far_base.specs.declared.plan.PassKind.TheVariants.{SnapRead as SnapReadPass}

abbrev pub PASS_KINDS : ℕ
PASS_KINDS = 9

-- the place of a kind among the counts
abbrev pub pass_place : PassKind → ℕ
pass_place GetReqPass = 0
pass_place WriteReqPass = 1
pass_place GetRepPass = 2
pass_place WriteRepPass = 3
pass_place AdmitPass = 4
pass_place PeekPass = 5
pass_place RemovePass = 6
pass_place SnapStartPass = 7
pass_place SnapReadPass = 8

-- the kind of a packet that comes to the switch; the start of a snapshot is of one kind, by difference or not
abbrev pub pass_kind : Packet → Option PassKind
pass_kind (GetReq caller op key) = Some GetReqPass
pass_kind (WriteReq caller op key body) = Some WriteReqPass
pass_kind (GetRep caller op key tag num body) = Some GetRepPass
pass_kind (WriteRep caller op key num body) = Some WriteRepPass
pass_kind (Admit epoch i key tag) = Some AdmitPass
pass_kind (Peek epoch i tag) = Some PeekPass
pass_kind (Remove epoch i tag latest num) = Some RemovePass
pass_kind (SnapStart epoch id) = Some SnapStartPass
pass_kind (SnapFrom epoch id base) = Some SnapStartPass
pass_kind (SnapRead epoch id i) = Some SnapReadPass
pass_kind _ = None

-- no packet has come
abbrev pub no_passes : List ℕ
no_passes = replicate PASS_KINDS 0

abbrev pub pass_count : List ℕ → PassKind → ℕ
pass_count passes kind = slice_index_or passes (pass_place kind) 0

abbrev pub one_more : List ℕ → Option PassKind → List ℕ
one_more passes None = passes
one_more passes (Some kind) = slice_set passes (pass_place kind) (suc (pass_count passes kind))

-- the counts once the packet has come, also where the switch drops it
abbrev pub with_pass : List ℕ → Packet → List ℕ
with_pass passes packet = one_more passes (pass_kind packet)
