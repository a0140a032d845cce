-- One eviction as contracts see it, and what each call makes of it.
use Rattle.std.specs.Prelude.{ℕ, ◌+◌, Bool, false, List}
use Rattle.far_base.specs.declared.record.Record.{Record}
use Rattle.far_base.specs.declared.slot_state.Due.{Due}
use Rattle.far_base.specs.declared.slot_state.Due.TheVariants.{Peeked, Stored, Removed, Over}
use Rattle.far_model.specs.Evictions.{Eviction, no_item}
use Rattle.far_model.specs.Evictions as model
use Rattle.safe_evict.specs.declared.next.Next.{Next}
use Rattle.safe_evict.specs.declared.next.Next.TheVariants.{Send, Store, Done, Kept}

-- the slot, what is waited for, the removals sent so far, and the record that was last to be stored
pub record EvictView : Type 0 where
  pub epoch : ℕ
  pub slot : ℕ
  pub key : List ℕ
  pub tag : ℕ
  pub due : Due
  pub tries : ℕ
  pub item : Record

-- the controller's eviction: it knows besides whether the slot is freed for a want, and the job of the last store
abbrev pub eviction_of : EvictView → Bool → ℕ → Eviction
eviction_of e for_want job = record {
  epoch = e.epoch;
  slot = e.slot;
  key = e.key;
  tag = e.tag;
  for_want = for_want;
  due = e.due;
  tries = e.tries;
  job = job;
  item = e.item;
}

abbrev pub begun : ℕ → ℕ → List ℕ → ℕ → EvictView
begun epoch slot key tag = record {
  epoch = epoch;
  slot = slot;
  key = key;
  tag = tag;
  due = Peeked;
  tries = 0;
  item =
      no_item key;
}

-- an eviction whose job and purpose do not matter
abbrev pub alone : EvictView → Eviction
alone e = eviction_of e false 0

abbrev pub next_of : Next → model.Next
next_of (Send packet) = model.Send packet
next_of (Store item) = model.Store item
next_of (Done tries) = model.Done tries
next_of (Kept tries last) = model.Kept tries last

abbrev pub removing : EvictView → EvictView
removing e = record e { due = Removed; tries = e.tries + 1 }

-- the eviction after what comes next
abbrev pub moved : EvictView → Next → EvictView
moved e (Send packet) = removing e
moved e (Store item) = record e { due = Stored; item = item }
moved e (Done tries) = record e { due = Over }
moved e (Kept tries last) = record e { due = Over }

-- how many removals were sent at the most
abbrev pub most_tries : Due → ℕ
most_tries Peeked = 0
most_tries Stored = 2
most_tries Removed = 3
most_tries Over = 3
