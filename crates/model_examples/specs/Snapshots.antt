-- Worked runs in which snapshots are taken.
use Rattle.std.specs.Prelude.{[], ◌∷◌, None}
use Rattle.far_base.specs.declared.log.LogEntry.TheVariants.{
  Admitted,
  Evicted,
  RecItem,
  Recovered,
  SnapItem,
  Snapped,
  Stopped,
}
use Rattle.far_base.specs.declared.plan.Order.TheVariants.{Admit as admit, Evict as evict, Snap as snap, Stop as stop}
use Rattle.model_examples.specs.Example.{Example}
use Rattle.model_examples.specs.Words.{
  key_a,
  key_b,
  key_c,
  body_p,
  body_q,
  body_r,
  body_s,
  body_t,
  body_u,
  body_v,
  body_x,
  sizes,
  get,
  put,
  by_server,
  by_switch,
  at,
  item,
}

-- the slot is overwritten twice before the snapshot reads it
abbrev pub overwritten_before_read : Example
overwritten_before_read = record {
  plan = record {
    config = sizes 1 1 1 0;
    ops =
        put 0 key_a body_p
        ∷ put 0 key_a body_q
        ∷ put 0 key_a body_r
        ∷ [];
    orders =
        admit 0 key_a
        ∷ snap 7
        ∷ [];
  };
  picks = 1 ∷ 1 ∷ 1 ∷ 0 ∷ 0 ∷ 0 ∷ 1 ∷ 1 ∷ 0 ∷ 1 ∷ 1 ∷ 0 ∷ 2 ∷ 2 ∷ [];
  table = record {
    steps = 19;
    history =
        by_switch 1 1 body_p 5 7
        ∷ by_switch 2 2 body_q 11 13
        ∷ by_switch 3 3 body_r 14 16
        ∷ [];
    control =
        at 4 (Admitted 0 key_a 1)
        ∷ at 18 (Snapped 1 1 1 0)
        ∷ at 18 (SnapItem 0 (item key_a 1 body_p))
        ∷ [];
    map = item key_a 3 body_r ∷ [];
  };
  course = record {
    bound = 512;
    left = 97 ∷ 81 ∷ 80 ∷ 79 ∷ 78 ∷ 77 ∷ 55 ∷ 54 ∷ 53 ∷ 52 ∷ 51 ∷ 50 ∷ 28 ∷ 27 ∷ 26 ∷ 4 ∷ 3 ∷ 2 ∷ 1 ∷ 0 ∷ [];
    enabled = 2 ∷ 2 ∷ 2 ∷ 2 ∷ 1 ∷ 1 ∷ 1 ∷ 2 ∷ 2 ∷ 2 ∷ 2 ∷ 2 ∷ 3 ∷ 3 ∷ 3 ∷ 3 ∷ 2 ∷ 1 ∷ 1 ∷ 0 ∷ [];
    finished = 19 ∷ [];
    miscounted = [];
    servers = [] ∷ [];
  };
}

-- the slot goes to another key before the snapshot reads it
abbrev pub slot_goes_on : Example
slot_goes_on = record {
  plan = record {
    config = sizes 1 1 1 0;
    ops =
        put 0 key_a body_p
        ∷ put 0 key_b body_q
        ∷ [];
    orders =
        admit 0 key_a
        ∷ snap 7
        ∷ evict 10 key_a
        ∷ admit 17 key_b
        ∷ [];
  };
  picks = 1 ∷ 1 ∷ 1 ∷ 0 ∷ 0 ∷ 0 ∷ 1 ∷ 1 ∷ 2 ∷ 2 ∷ 2 ∷ 2 ∷ 2 ∷ 2 ∷ 3 ∷ 3 ∷ 3 ∷ 0 ∷ 2 ∷ 2 ∷ [];
  table = record {
    steps = 27;
    history =
        by_switch 1 1 body_p 5 7
        ∷ by_switch 2 2 body_q 22 24
        ∷ [];
    control =
        at 4 (Admitted 0 key_a 1)
        ∷ at 17 (Evicted 0 key_a 1)
        ∷ at 21 (Admitted 0 key_b 2)
        ∷ at 26 (Snapped 1 1 1 0)
        ∷ at 26 (SnapItem 0 (item key_a 1 body_p))
        ∷ [];
    map =
        item key_a 1 body_p
        ∷ item key_b 2 body_q
        ∷ [];
  };
  course = record {
    bound = 576;
    left = 107 ∷ 91 ∷ 90 ∷ 89 ∷ 88 ∷ 87 ∷ 65 ∷ 64 ∷ 63 ∷ 62 ∷ 61 ∷ 60 ∷ 59 ∷ 58 ∷ 57 ∷ 56 ∷ 55 ∷ 46 ∷ 30 ∷ 29 ∷ 28
        ∷ 27 ∷ 26 ∷ 4 ∷ 3 ∷ 2 ∷ 1 ∷ 0 ∷ [];
    enabled = 2 ∷ 2 ∷ 2 ∷ 2 ∷ 1 ∷ 1 ∷ 1 ∷ 2 ∷ 2 ∷ 2 ∷ 3 ∷ 3 ∷ 3 ∷ 3 ∷ 3 ∷ 3 ∷ 4 ∷ 4 ∷ 4 ∷ 4 ∷ 4 ∷ 3 ∷ 3 ∷ 3 ∷ 2 ∷ 1
        ∷ 1 ∷ 0 ∷ [];
    finished = 27 ∷ [];
    miscounted = [];
    servers = (item key_a 1 body_p ∷ []) ∷ [];
  };
}

-- a second snapshot of an empty slot has the part of the first
abbrev pub empty_slot_again : Example
empty_slot_again = record {
  plan = record {
    config = sizes 1 1 1 0;
    ops = [];
    orders =
        snap 0
        ∷ snap 0
        ∷ [];
  };
  picks = [];
  table = record {
    steps = 12;
    history = [];
    control =
        at 5 (Snapped 1 0 0 0)
        ∷ at 11 (Snapped 2 0 0 1)
        ∷ [];
    map = [];
  };
  course = record {
    bound = 384;
    left = 12 ∷ 11 ∷ 10 ∷ 9 ∷ 8 ∷ 7 ∷ 6 ∷ 5 ∷ 4 ∷ 3 ∷ 2 ∷ 1 ∷ 0 ∷ [];
    enabled = 1 ∷ 1 ∷ 1 ∷ 1 ∷ 1 ∷ 2 ∷ 2 ∷ 1 ∷ 1 ∷ 1 ∷ 1 ∷ 1 ∷ 0 ∷ [];
    finished = 12 ∷ [];
    miscounted = [];
    servers = [] ∷ [];
  };
}

-- of two slots one changes between the snapshots: the part of the other is that of the first
abbrev pub one_slot_changed : Example
one_slot_changed = record {
  plan = record {
    config = sizes 1 1 2 0;
    ops =
        put 0 key_a body_p
        ∷ put 0 key_b body_q
        ∷ put 0 key_a body_r
        ∷ [];
    orders =
        admit 0 key_a
        ∷ admit 0 key_b
        ∷ snap 14
        ∷ snap 25
        ∷ [];
  };
  picks = 1 ∷ 2 ∷ 1 ∷ 1 ∷ 1 ∷ 1 ∷ 0 ∷ 0 ∷ 0 ∷ 0 ∷ 0 ∷ 0 ∷ 1 ∷ 1 ∷ 1 ∷ 1 ∷ 1 ∷ 1 ∷ [];
  table = record {
    steps = 33;
    history =
        by_switch 1 1 body_p 9 11
        ∷ by_switch 2 2 body_q 12 14
        ∷ by_switch 3 3 body_r 22 25
        ∷ [];
    control =
        at 7 (Admitted 0 key_a 1)
        ∷ at 8 (Admitted 1 key_b 2)
        ∷ at 21 (Snapped 1 2 2 0)
        ∷ at 21 (SnapItem 0 (item key_a 1 body_p))
        ∷ at 21 (SnapItem 1 (item key_b 2 body_q))
        ∷ at 32 (Snapped 2 3 2 1)
        ∷ at 32 (SnapItem 0 (item key_a 3 body_r))
        ∷ at 32 (SnapItem 1 (item key_b 2 body_q))
        ∷ [];
    map =
        item key_a 3 body_r
        ∷ item key_b 2 body_q
        ∷ [];
  };
  course = record {
    bound = 960;
    left = 126 ∷ 110 ∷ 94 ∷ 93 ∷ 92 ∷ 91 ∷ 90 ∷ 89 ∷ 88 ∷ 87 ∷ 65 ∷ 64 ∷ 63 ∷ 41 ∷ 40 ∷ 39 ∷ 38 ∷ 37 ∷ 36 ∷ 35 ∷ 34
        ∷ 33 ∷ 32 ∷ 31 ∷ 9 ∷ 8 ∷ 7 ∷ 6 ∷ 5 ∷ 4 ∷ 3 ∷ 2 ∷ 1 ∷ 0 ∷ [];
    enabled = 2 ∷ 3 ∷ 2 ∷ 3 ∷ 3 ∷ 3 ∷ 3 ∷ 2 ∷ 1 ∷ 1 ∷ 1 ∷ 1 ∷ 1 ∷ 1 ∷ 2 ∷ 2 ∷ 2 ∷ 3 ∷ 3 ∷ 3 ∷ 2 ∷ 2 ∷ 2 ∷ 1 ∷ 1 ∷ 1
        ∷ 1 ∷ 1 ∷ 2 ∷ 2 ∷ 2 ∷ 1 ∷ 1 ∷ 0 ∷ [];
    finished = 33 ∷ [];
    miscounted = [];
    servers = [] ∷ [];
  };
}

-- a slot is emptied between two snapshots: its part says that it holds nothing
abbrev pub emptied_between_snapshots : Example
emptied_between_snapshots = record {
  plan = record {
    config = sizes 1 1 1 0;
    ops = put 0 key_a body_x ∷ [];
    orders =
        admit 0 key_a
        ∷ snap 8
        ∷ evict 13 key_a
        ∷ snap 21
        ∷ [];
  };
  picks = 1 ∷ 1 ∷ 1 ∷ [];
  table = record {
    steps = 26;
    history = by_switch 1 1 body_x 5 7 ∷ [];
    control =
        at 4 (Admitted 0 key_a 1)
        ∷ at 12 (Snapped 1 1 1 0)
        ∷ at 12 (SnapItem 0 (item key_a 1 body_x))
        ∷ at 20 (Evicted 0 key_a 1)
        ∷ at 25 (Snapped 2 1 0 0)
        ∷ [];
    map = item key_a 1 body_x ∷ [];
  };
  course = record {
    bound = 672;
    left = 70 ∷ 54 ∷ 53 ∷ 52 ∷ 51 ∷ 50 ∷ 28 ∷ 27 ∷ 26 ∷ 25 ∷ 24 ∷ 23 ∷ 22 ∷ 21 ∷ 20 ∷ 19 ∷ 18 ∷ 17 ∷ 16 ∷ 15 ∷ 6 ∷ 5
        ∷ 4 ∷ 3 ∷ 2 ∷ 1 ∷ 0 ∷ [];
    enabled = 2 ∷ 2 ∷ 2 ∷ 2 ∷ 1 ∷ 1 ∷ 1 ∷ 1 ∷ 1 ∷ 1 ∷ 1 ∷ 1 ∷ 1 ∷ 1 ∷ 1 ∷ 1 ∷ 1 ∷ 1 ∷ 1 ∷ 1 ∷ 1 ∷ 1 ∷ 1 ∷ 1 ∷ 1 ∷ 1
        ∷ 0 ∷ [];
    finished = 26 ∷ [];
    miscounted = [];
    servers = (item key_a 1 body_x ∷ []) ∷ [];
  };
}

-- between two snapshots a slot goes from the absence of a key to that of another: its part is sent whole
abbrev pub absence_of_another_key : Example
absence_of_another_key = record {
  plan = record {
    config = sizes 1 1 1 0;
    ops =
        get 0 key_a
        ∷ get 0 key_b
        ∷ [];
    orders =
        admit 0 key_a
        ∷ snap 9
        ∷ evict 14 key_a
        ∷ admit 22 key_b
        ∷ snap 900
        ∷ [];
  };
  picks = 1 ∷ 1 ∷ 1 ∷ 0 ∷ 0 ∷ 0 ∷ 0 ∷ 0 ∷ 1 ∷ 1 ∷ 1 ∷ 1 ∷ 1 ∷ 1 ∷ 1 ∷ 1 ∷ 1 ∷ 1 ∷ 1 ∷ 1 ∷ 1 ∷ 1 ∷ [];
  table = record {
    steps = 37;
    history =
        by_server 1 0 None 5 9
        ∷ by_server 2 0 None 27 31
        ∷ [];
    control =
        at 4 (Admitted 0 key_a 1)
        ∷ at 14 (Snapped 1 0 1 0)
        ∷ at 14 (SnapItem 0 (item key_a 0 None))
        ∷ at 22 (Evicted 0 key_a 1)
        ∷ at 26 (Admitted 0 key_b 2)
        ∷ at 36 (Snapped 2 0 1 0)
        ∷ at 36 (SnapItem 0 (item key_b 0 None))
        ∷ [];
    map = [];
  };
  course = record {
    bound = 864;
    left = 113 ∷ 97 ∷ 96 ∷ 95 ∷ 94 ∷ 93 ∷ 73 ∷ 72 ∷ 71 ∷ 70 ∷ 69 ∷ 68 ∷ 67 ∷ 66 ∷ 65 ∷ 64 ∷ 63 ∷ 62 ∷ 61 ∷ 60 ∷ 59
        ∷ 58 ∷ 49 ∷ 33 ∷ 32 ∷ 31 ∷ 30 ∷ 29 ∷ 9 ∷ 8 ∷ 7 ∷ 6 ∷ 5 ∷ 4 ∷ 3 ∷ 2 ∷ 1 ∷ 0 ∷ [];
    enabled = 2 ∷ 2 ∷ 2 ∷ 2 ∷ 1 ∷ 1 ∷ 1 ∷ 1 ∷ 1 ∷ 2 ∷ 2 ∷ 2 ∷ 2 ∷ 2 ∷ 3 ∷ 3 ∷ 2 ∷ 2 ∷ 2 ∷ 2 ∷ 2 ∷ 2 ∷ 2 ∷ 2 ∷ 2 ∷ 2
        ∷ 1 ∷ 1 ∷ 1 ∷ 1 ∷ 1 ∷ 1 ∷ 1 ∷ 1 ∷ 1 ∷ 1 ∷ 1 ∷ 0 ∷ [];
    finished = 37 ∷ [];
    miscounted = [];
    servers = [] ∷ [];
  };
}

-- four snapshots under traffic, of which some slots show the same as the one before
abbrev pub four_snapshots : Example
four_snapshots = record {
  plan = record {
    config = sizes 2 1 3 0;
    ops =
        put 0 key_a body_p
        ∷ put 0 key_b body_q
        ∷ get 1 key_c
        ∷ put 0 key_a body_r
        ∷ put 0 key_b body_s
        ∷ put 0 key_b body_t
        ∷ put 0 key_a body_u
        ∷ put 0 key_b body_v
        ∷ get 1 key_a
        ∷ get 1 key_c
        ∷ [];
    orders =
        admit 0 key_c
        ∷ admit 1 key_a
        ∷ admit 2 key_b
        ∷ snap 21
        ∷ snap 35
        ∷ snap 49
        ∷ snap 62
        ∷ stop 83
        ∷ [];
  };
  picks = 2 ∷ 2 ∷ 2 ∷ 2 ∷ 2 ∷ 2 ∷ 2 ∷ 2 ∷ 2 ∷ 0 ∷ 1 ∷ 1 ∷ 0 ∷ 1 ∷ 1 ∷ 1 ∷ 1 ∷ 1 ∷ 2 ∷ 0 ∷ 2 ∷ 3 ∷ 2 ∷ 0 ∷ 2 ∷ 3 ∷ 2
      ∷ 1 ∷ 3 ∷ 2 ∷ 2 ∷ 4 ∷ 4 ∷ 4 ∷ 0 ∷ 6 ∷ 6 ∷ 7 ∷ 6 ∷ 4 ∷ 4 ∷ 4 ∷ 4 ∷ 4 ∷ 4 ∷ 4 ∷ 4 ∷ 6 ∷ 0 ∷ 5 ∷ 5 ∷ 6 ∷ 0 ∷ 5 ∷ 5
      ∷ 5 ∷ 7 ∷ 3 ∷ 3 ∷ 59 ∷ 7 ∷ 7 ∷ 6 ∷ 6 ∷ 59 ∷ 59 ∷ 6 ∷ 59 ∷ 59 ∷ 59 ∷ 0 ∷ 59 ∷ 59 ∷ 0 ∷ 59 ∷ 59 ∷ [];
  table = record {
    steps = 98;
    history =
        by_switch 1 1 body_p 13 15
        ∷ by_switch 2 2 body_q 16 18
        ∷ by_server 3 0 None 19 34
        ∷ by_switch 4 3 body_r 24 27
        ∷ by_switch 5 4 body_s 28 31
        ∷ by_switch 6 5 body_t 40 42
        ∷ by_switch 7 6 body_u 55 57
        ∷ by_switch 8 7 body_v 59 61
        ∷ by_switch 9 6 body_u 78 80
        ∷ by_switch 10 0 None 81 83
        ∷ [];
    control =
        at 6 (Admitted 0 key_c 1)
        ∷ at 9 (Admitted 1 key_a 2)
        ∷ at 12 (Admitted 2 key_b 3)
        ∷ at 35 (Snapped 1 2 2 0)
        ∷ at 35 (SnapItem 1 (item key_a 1 body_p))
        ∷ at 35 (SnapItem 2 (item key_b 2 body_q))
        ∷ at 47 (Snapped 2 4 3 0)
        ∷ at 47 (SnapItem 0 (item key_c 0 None))
        ∷ at 47 (SnapItem 1 (item key_a 3 body_r))
        ∷ at 47 (SnapItem 2 (item key_b 4 body_s))
        ∷ at 62 (Snapped 3 5 3 2)
        ∷ at 62 (SnapItem 0 (item key_c 0 None))
        ∷ at 62 (SnapItem 1 (item key_a 3 body_r))
        ∷ at 62 (SnapItem 2 (item key_b 5 body_t))
        ∷ at 73 (Snapped 4 7 3 1)
        ∷ at 73 (SnapItem 0 (item key_c 0 None))
        ∷ at 73 (SnapItem 1 (item key_a 6 body_u))
        ∷ at 73 (SnapItem 2 (item key_b 7 body_v))
        ∷ at 84 Stopped
        ∷ at 98 (Recovered 7 2)
        ∷ at 98 (RecItem (item key_a 6 body_u))
        ∷ at 98 (RecItem (item key_b 7 body_v))
        ∷ [];
    map =
        item key_a 6 body_u
        ∷ item key_b 7 body_v
        ∷ [];
  };
  course = record {
    bound = 3840;
    left = 386 ∷ 370 ∷ 354 ∷ 338 ∷ 337 ∷ 336 ∷ 335 ∷ 334 ∷ 333 ∷ 332 ∷ 331 ∷ 330 ∷ 329 ∷ 328 ∷ 306 ∷ 305 ∷ 304 ∷ 282
        ∷ 281 ∷ 280 ∷ 260 ∷ 259 ∷ 258 ∷ 257 ∷ 256 ∷ 234 ∷ 233 ∷ 232 ∷ 231 ∷ 209 ∷ 208 ∷ 207 ∷ 206 ∷ 205 ∷ 204 ∷ 200
        ∷ 199 ∷ 198 ∷ 197 ∷ 196 ∷ 195 ∷ 173 ∷ 172 ∷ 171 ∷ 170 ∷ 169 ∷ 168 ∷ 167 ∷ 166 ∷ 165 ∷ 164 ∷ 163 ∷ 162 ∷ 161
        ∷ 160 ∷ 159 ∷ 137 ∷ 136 ∷ 135 ∷ 134 ∷ 112 ∷ 111 ∷ 110 ∷ 109 ∷ 108 ∷ 107 ∷ 106 ∷ 105 ∷ 104 ∷ 103 ∷ 102 ∷ 101
        ∷ 100 ∷ 99 ∷ 98 ∷ 97 ∷ 96 ∷ 95 ∷ 94 ∷ 72 ∷ 71 ∷ 70 ∷ 48 ∷ 47 ∷ 46 ∷ 45 ∷ 44 ∷ 41 ∷ 19 ∷ 9 ∷ 8 ∷ 7 ∷ 6 ∷ 5 ∷ 4
        ∷ 3 ∷ 2 ∷ 1 ∷ 0 ∷ [];
    enabled = 3 ∷ 4 ∷ 4 ∷ 3 ∷ 4 ∷ 4 ∷ 3 ∷ 4 ∷ 4 ∷ 3 ∷ 3 ∷ 3 ∷ 2 ∷ 2 ∷ 2 ∷ 2 ∷ 2 ∷ 2 ∷ 2 ∷ 2 ∷ 2 ∷ 3 ∷ 3 ∷ 3 ∷ 3 ∷ 4
        ∷ 3 ∷ 3 ∷ 3 ∷ 4 ∷ 3 ∷ 3 ∷ 4 ∷ 3 ∷ 3 ∷ 5 ∷ 5 ∷ 5 ∷ 7 ∷ 7 ∷ 7 ∷ 8 ∷ 8 ∷ 7 ∷ 6 ∷ 6 ∷ 5 ∷ 6 ∷ 5 ∷ 5 ∷ 5 ∷ 5 ∷ 7
        ∷ 7 ∷ 6 ∷ 6 ∷ 7 ∷ 7 ∷ 6 ∷ 6 ∷ 7 ∷ 6 ∷ 8 ∷ 8 ∷ 8 ∷ 7 ∷ 6 ∷ 8 ∷ 8 ∷ 7 ∷ 7 ∷ 6 ∷ 6 ∷ 7 ∷ 6 ∷ 5 ∷ 4 ∷ 3 ∷ 3 ∷ 3
        ∷ 3 ∷ 3 ∷ 3 ∷ 3 ∷ 3 ∷ 2 ∷ 1 ∷ 4 ∷ 4 ∷ 4 ∷ 4 ∷ 4 ∷ 3 ∷ 2 ∷ 1 ∷ 1 ∷ 1 ∷ 1 ∷ 0 ∷ [];
    finished = 98 ∷ [];
    miscounted = [];
    servers = (item key_a 6 body_u ∷ item key_b 7 body_v ∷ []) ∷ [];
  };
}
