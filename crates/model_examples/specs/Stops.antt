-- Worked runs in which the switch loses its memory.
use Rattle.std.specs.Prelude.{[], ◌∷◌, replicate}
use Rattle.far_base.specs.declared.log.LogEntry.TheVariants.{
  Admitted,
  Evicted,
  RecItem,
  Recovered,
  SnapItem,
  Snapped,
  Stopped,
}
use Rattle.far_base.specs.declared.plan.Order.TheVariants.{Admit as admit, Evict as evict, Snap as snap, Stop as stop}
use Rattle.model_examples.specs.Example.{Example}
use Rattle.model_examples.specs.Words.{
  key_a,
  key_b,
  key_c,
  key_d,
  body_k,
  body_m,
  body_p,
  body_q,
  body_r,
  body_s,
  body_t,
  body_u,
  body_v,
  body_w,
  body_x,
  body_y,
  sizes,
  get,
  put,
  by_server,
  by_switch,
  at,
  item,
}

-- a release overtakes the answer of a write up to its point
abbrev pub release_overtakes : Example
release_overtakes = record {
  plan = record {
    config = sizes 1 1 1 0;
    ops =
        put 0 key_a body_p
        ∷ get 0 key_a
        ∷ [];
    orders =
        admit 0 key_a
        ∷ snap 6
        ∷ stop 12
        ∷ [];
  };
  picks = 1 ∷ 1 ∷ 1 ∷ 0 ∷ 0 ∷ 1 ∷ 1 ∷ 1 ∷ 1 ∷ 1 ∷ 0 ∷ 1 ∷ 1 ∷ 1 ∷ 1 ∷ 1 ∷ 1 ∷ 1 ∷ 1 ∷ [];
  table = record {
    steps = 27;
    history =
        by_switch 1 1 body_p 5 14
        ∷ by_server 2 1 body_p 23 27
        ∷ [];
    control =
        at 4 (Admitted 0 key_a 1)
        ∷ at 11 (Snapped 1 1 1 0)
        ∷ at 11 (SnapItem 0 (item key_a 1 body_p))
        ∷ at 13 Stopped
        ∷ at 22 (Recovered 1 1)
        ∷ at 22 (RecItem (item key_a 1 body_p))
        ∷ [];
    map = item key_a 1 body_p ∷ [];
  };
  course = record {
    bound = 672;
    left = 88 ∷ 72 ∷ 71 ∷ 70 ∷ 69 ∷ 68 ∷ 46 ∷ 45 ∷ 44 ∷ 43 ∷ 42 ∷ 41 ∷ 40 ∷ 39 ∷ 38 ∷ 37 ∷ 30 ∷ 29 ∷ 28 ∷ 27 ∷ 26
        ∷ 25 ∷ 24 ∷ 23 ∷ 3 ∷ 2 ∷ 1 ∷ 0 ∷ [];
    enabled = 2 ∷ 2 ∷ 2 ∷ 2 ∷ 1 ∷ 1 ∷ 2 ∷ 2 ∷ 2 ∷ 2 ∷ 2 ∷ 2 ∷ 2 ∷ 1 ∷ 2 ∷ 3 ∷ 3 ∷ 3 ∷ 2 ∷ 2 ∷ 2 ∷ 2 ∷ 1 ∷ 1 ∷ 1 ∷ 1
        ∷ 1 ∷ 0 ∷ [];
    finished = 27 ∷ [];
    miscounted = [];
    servers = (item key_a 1 body_p ∷ []) ∷ [];
  };
}

-- the switch stops while the answer of a write that another client has read is on its way
abbrev pub stop_with_answer : Example
stop_with_answer = record {
  plan = record {
    config = sizes 2 1 1 0;
    ops =
        put 0 key_a body_p
        ∷ get 1 key_a
        ∷ get 1 key_a
        ∷ [];
    orders =
        admit 0 key_a
        ∷ stop 9
        ∷ [];
  };
  picks = 2 ∷ 2 ∷ 2 ∷ 0 ∷ 1 ∷ 0 ∷ 1 ∷ 1 ∷ 1 ∷ 1 ∷ 1 ∷ 1 ∷ 1 ∷ 1 ∷ 1 ∷ 1 ∷ 1 ∷ 1 ∷ 1 ∷ [];
  table = record {
    steps = 26;
    history =
        by_switch 1 1 body_p 5 11
        ∷ by_switch 2 1 body_p 7 9
        ∷ by_server 3 1 body_p 22 26
        ∷ [];
    control =
        at 4 (Admitted 0 key_a 1)
        ∷ at 10 Stopped
        ∷ at 21 (Recovered 1 1)
        ∷ at 21 (RecItem (item key_a 1 body_p))
        ∷ [];
    map = item key_a 1 body_p ∷ [];
  };
  course = record {
    bound = 576;
    left = 111 ∷ 95 ∷ 94 ∷ 93 ∷ 92 ∷ 91 ∷ 69 ∷ 68 ∷ 46 ∷ 45 ∷ 44 ∷ 43 ∷ 40 ∷ 38 ∷ 31 ∷ 30 ∷ 29 ∷ 28 ∷ 27 ∷ 26 ∷ 25
        ∷ 24 ∷ 23 ∷ 3 ∷ 2 ∷ 1 ∷ 0 ∷ [];
    enabled = 3 ∷ 3 ∷ 3 ∷ 3 ∷ 2 ∷ 2 ∷ 2 ∷ 2 ∷ 2 ∷ 3 ∷ 2 ∷ 2 ∷ 3 ∷ 3 ∷ 3 ∷ 3 ∷ 2 ∷ 2 ∷ 2 ∷ 2 ∷ 2 ∷ 1 ∷ 1 ∷ 1 ∷ 1 ∷ 1
        ∷ 0 ∷ [];
    finished = 26 ∷ [];
    miscounted = [];
    servers = (item key_a 1 body_p ∷ []) ∷ [];
  };
}

-- the switch stops in the middle of the second snapshot
abbrev pub stop_in_snapshot : Example
stop_in_snapshot = record {
  plan = record {
    config = sizes 1 1 1 0;
    ops =
        put 0 key_a body_p
        ∷ put 0 key_a body_q
        ∷ get 0 key_a
        ∷ [];
    orders =
        admit 0 key_a
        ∷ snap 7
        ∷ snap 16
        ∷ stop 18
        ∷ [];
  };
  picks = 1 ∷ 1 ∷ 1 ∷ 0 ∷ 0 ∷ 0 ∷ 1 ∷ 1 ∷ 1 ∷ 1 ∷ 1 ∷ 0 ∷ 0 ∷ 0 ∷ 1 ∷ 1 ∷ 1 ∷ 1 ∷ 1 ∷ 1 ∷ 1 ∷ 1 ∷ 1 ∷ 1 ∷ 1 ∷ 1 ∷ [];
  table = record {
    steps = 36;
    history =
        by_switch 1 1 body_p 5 7
        ∷ by_switch 2 2 body_q 14 16
        ∷ by_server 3 2 body_q 31 36
        ∷ [];
    control =
        at 4 (Admitted 0 key_a 1)
        ∷ at 12 (Snapped 1 1 1 0)
        ∷ at 12 (SnapItem 0 (item key_a 1 body_p))
        ∷ at 19 Stopped
        ∷ at 30 (Recovered 2 1)
        ∷ at 30 (RecItem (item key_a 2 body_q))
        ∷ [];
    map = item key_a 2 body_q ∷ [];
  };
  course = record {
    bound = 1024;
    left = 121 ∷ 105 ∷ 104 ∷ 103 ∷ 102 ∷ 101 ∷ 79 ∷ 78 ∷ 77 ∷ 76 ∷ 75 ∷ 74 ∷ 73 ∷ 72 ∷ 71 ∷ 49 ∷ 48 ∷ 47 ∷ 46 ∷ 44
        ∷ 43 ∷ 41 ∷ 33 ∷ 32 ∷ 31 ∷ 30 ∷ 29 ∷ 28 ∷ 27 ∷ 26 ∷ 25 ∷ 24 ∷ 23 ∷ 3 ∷ 2 ∷ 1 ∷ 0 ∷ [];
    enabled = 2 ∷ 2 ∷ 2 ∷ 2 ∷ 1 ∷ 1 ∷ 1 ∷ 2 ∷ 2 ∷ 2 ∷ 2 ∷ 2 ∷ 2 ∷ 1 ∷ 1 ∷ 1 ∷ 2 ∷ 2 ∷ 3 ∷ 2 ∷ 2 ∷ 3 ∷ 3 ∷ 3 ∷ 3 ∷ 2
        ∷ 2 ∷ 2 ∷ 2 ∷ 2 ∷ 2 ∷ 2 ∷ 1 ∷ 1 ∷ 1 ∷ 1 ∷ 0 ∷ [];
    finished = 36 ∷ [];
    miscounted = [];
    servers = (item key_a 2 body_q ∷ []) ∷ [];
  };
}

-- the switch stops twice, and an admission of the first epoch arrives after the first restart
abbrev pub two_stops : Example
two_stops = record {
  plan = record {
    config = sizes 1 1 1 0;
    ops = put 0 key_a body_p ∷ [];
    orders =
        admit 0 key_a
        ∷ stop 2
        ∷ stop 10
        ∷ [];
  };
  picks = 1 ∷ 1 ∷ 1 ∷ 1 ∷ 1 ∷ 1 ∷ 1 ∷ 1 ∷ 1 ∷ 1 ∷ 1 ∷ 1 ∷ 1 ∷ 1 ∷ [];
  table = record {
    steps = 22;
    history = by_server 1 1 body_p 18 22 ∷ [];
    control =
        at 3 Stopped
        ∷ at 9 (Recovered 0 0)
        ∷ at 11 Stopped
        ∷ at 17 (Recovered 0 0)
        ∷ [];
    map = item key_a 1 body_p ∷ [];
  };
  course = record {
    bound = 576;
    left = 67 ∷ 51 ∷ 50 ∷ 49 ∷ 46 ∷ 42 ∷ 41 ∷ 40 ∷ 39 ∷ 38 ∷ 36 ∷ 35 ∷ 32 ∷ 28 ∷ 27 ∷ 26 ∷ 25 ∷ 24 ∷ 23 ∷ 3 ∷ 2 ∷ 1
        ∷ 0 ∷ [];
    enabled = 2 ∷ 2 ∷ 3 ∷ 2 ∷ 2 ∷ 2 ∷ 2 ∷ 2 ∷ 2 ∷ 2 ∷ 2 ∷ 2 ∷ 2 ∷ 2 ∷ 2 ∷ 2 ∷ 2 ∷ 1 ∷ 1 ∷ 1 ∷ 1 ∷ 1 ∷ 0 ∷ [];
    finished = 22 ∷ [];
    miscounted = [];
    servers = (item key_a 1 body_p ∷ []) ∷ [];
  };
}

-- after a stop the next snapshot is not by difference, and the one after it is; the second round has the next number
abbrev pub stop_between_snapshots : Example
stop_between_snapshots = record {
  plan = record {
    config = sizes 1 1 1 0;
    ops = [];
    orders =
        snap 0
        ∷ stop 6
        ∷ snap 7
        ∷ snap 19
        ∷ stop 25
        ∷ [];
  };
  picks = [];
  table = record {
    steps = 32;
    history = [];
    control =
        at 5 (Snapped 1 0 0 0)
        ∷ at 7 Stopped
        ∷ at 13 (Recovered 0 0)
        ∷ at 18 (Snapped 2 0 0 0)
        ∷ at 24 (Snapped 3 0 0 1)
        ∷ at 26 Stopped
        ∷ at 32 (Recovered 0 0)
        ∷ [];
    map = [];
  };
  course = record {
    bound = 768;
    left = 36 ∷ 35 ∷ 34 ∷ 33 ∷ 32 ∷ 31 ∷ 30 ∷ 29 ∷ 26 ∷ 25 ∷ 24 ∷ 23 ∷ 22 ∷ 21 ∷ 20 ∷ 19 ∷ 18 ∷ 17 ∷ 16 ∷ 15 ∷ 14 ∷ 13
        ∷ 12 ∷ 11 ∷ 10 ∷ 9 ∷ 8 ∷ 5 ∷ 4 ∷ 3 ∷ 2 ∷ 1 ∷ 0 ∷ [];
    enabled = 1 ∷ 1 ∷ 1 ∷ 1 ∷ 1 ∷ 1 ∷ 1 ∷ 1 ∷ 1 ∷ 1 ∷ 1 ∷ 1 ∷ 1 ∷ 1 ∷ 1 ∷ 1 ∷ 1 ∷ 1 ∷ 1 ∷ 1 ∷ 1 ∷ 1 ∷ 1 ∷ 1 ∷ 1 ∷ 1
        ∷ 1 ∷ 1 ∷ 1 ∷ 1 ∷ 1 ∷ 1 ∷ 0 ∷ [];
    finished = 32 ∷ [];
    miscounted = [];
    servers = [] ∷ [];
  };
}

-- three clients tell several records each, in parts that overtake each other
abbrev pub records_told_in_parts : Example
records_told_in_parts = record {
  plan = record {
    config = sizes 3 3 3 0;
    ops =
        put 0 key_a body_p
        ∷ put 0 key_b body_q
        ∷ put 1 key_c body_r
        ∷ put 0 key_a body_t
        ∷ put 1 key_c body_u
        ∷ put 0 key_b body_v
        ∷ put 0 key_a body_w
        ∷ put 1 key_b body_x
        ∷ put 1 key_a body_y
        ∷ put 2 key_d body_m
        ∷ put 2 key_d body_k
        ∷ get 2 key_b
        ∷ get 0 key_a
        ∷ get 1 key_c
        ∷ get 2 key_b
        ∷ get 1 key_d
        ∷ [];
    orders =
        admit 0 key_a
        ∷ admit 1 key_b
        ∷ admit 2 key_c
        ∷ snap 26
        ∷ snap 40
        ∷ stop 67
        ∷ admit 70 key_b
        ∷ [];
  };
  picks = 3 ∷ 3 ∷ 3 ∷ 3 ∷ 3 ∷ 3 ∷ 3 ∷ 3 ∷ 3 ∷ 2 ∷ 2 ∷ 2 ∷ 2 ∷ 2 ∷ 1 ∷ 2 ∷ 2 ∷ 0 ∷ 2 ∷ 2 ∷ 0 ∷ 2 ∷ 2 ∷ 3 ∷ 3 ∷ 3 ∷ 3
      ∷ 3 ∷ 3 ∷ 3 ∷ 3 ∷ 1 ∷ 5 ∷ 0 ∷ 5 ∷ 5 ∷ 6 ∷ 0 ∷ 6 ∷ 7 ∷ 6 ∷ 6 ∷ 6 ∷ 6 ∷ 6 ∷ 6 ∷ 6 ∷ 2 ∷ 5 ∷ 2 ∷ 3 ∷ 0 ∷ 4 ∷ 4 ∷ 1
      ∷ 4 ∷ 4 ∷ 2 ∷ 4 ∷ 4 ∷ 1 ∷ 4 ∷ 59 ∷ 4 ∷ 4 ∷ 9 ∷ 4 ∷ 8 ∷ 9 ∷ 4 ∷ 11 ∷ 4 ∷ 10 ∷ 4 ∷ 59 ∷ 4 ∷ 8 ∷ 4 ∷ 7 ∷ 5 ∷ 6 ∷ 59
      ∷ 59 ∷ 59 ∷ 59 ∷ 59 ∷ 6 ∷ 6 ∷ 59 ∷ 59 ∷ 59 ∷ 59 ∷ 59 ∷ 59 ∷ 59 ∷ 59 ∷ 59 ∷ 59 ∷ 59 ∷ 59 ∷ 59 ∷ 59 ∷ 59 ∷ 59 ∷ 59
      ∷ 59 ∷ 59 ∷ 59 ∷ 59 ∷ 59 ∷ 59 ∷ 59 ∷ 59 ∷ 59 ∷ 59 ∷ 59 ∷ 59 ∷ 59 ∷ 59 ∷ 59 ∷ 59 ∷ 59 ∷ 59 ∷ [];
  table = record {
    steps = 130;
    history =
        by_server 10 1 body_m 13 17
        ∷ by_switch 3 2 body_r 18 20
        ∷ by_switch 1 3 body_p 21 23
        ∷ by_switch 2 4 body_q 24 26
        ∷ by_switch 5 5 body_u 36 56
        ∷ by_switch 4 6 body_t 38 40
        ∷ by_switch 6 7 body_v 43 46
        ∷ by_switch 7 8 body_w 57 59
        ∷ by_switch 8 9 body_x 60 62
        ∷ by_switch 9 11 body_y 66 69
        ∷ by_server 11 10 body_k 63 105
        ∷ by_server 12 9 body_x 108 112
        ∷ by_switch 15 9 body_x 113 115
        ∷ by_server 14 5 body_u 116 120
        ∷ by_server 16 10 body_k 121 125
        ∷ by_server 13 11 body_y 126 130
        ∷ [];
    control =
        at 6 (Admitted 0 key_a 1)
        ∷ at 9 (Admitted 1 key_b 2)
        ∷ at 12 (Admitted 2 key_c 3)
        ∷ at 35 (Snapped 1 4 3 0)
        ∷ at 35 (SnapItem 0 (item key_a 3 body_p))
        ∷ at 35 (SnapItem 1 (item key_b 4 body_q))
        ∷ at 35 (SnapItem 2 (item key_c 2 body_r))
        ∷ at 51 (Snapped 2 6 3 1)
        ∷ at 51 (SnapItem 0 (item key_a 6 body_t))
        ∷ at 51 (SnapItem 1 (item key_b 4 body_q))
        ∷ at 51 (SnapItem 2 (item key_c 5 body_u))
        ∷ at 68 Stopped
        ∷ at 99 (Recovered 11 4)
        ∷ at 99 (RecItem (item key_a 11 body_y))
        ∷ at 99 (RecItem (item key_b 9 body_x))
        ∷ at 99 (RecItem (item key_c 5 body_u))
        ∷ at 99 (RecItem (item key_d 10 body_k))
        ∷ at 103 (Admitted 0 key_b 4)
        ∷ [];
    map =
        item key_a 11 body_y
        ∷ item key_b 9 body_x
        ∷ item key_c 5 body_u
        ∷ item key_d 10 body_k
        ∷ [];
  };
  course = record {
    bound = 3840;
    left = 553 ∷ 537 ∷ 521 ∷ 505 ∷ 504 ∷ 503 ∷ 502 ∷ 501 ∷ 500 ∷ 499 ∷ 498 ∷ 497 ∷ 496 ∷ 495 ∷ 475 ∷ 474 ∷ 473 ∷ 472
        ∷ 471 ∷ 449 ∷ 448 ∷ 447 ∷ 425 ∷ 424 ∷ 423 ∷ 401 ∷ 400 ∷ 399 ∷ 398 ∷ 397 ∷ 396 ∷ 395 ∷ 394 ∷ 393 ∷ 392 ∷ 391
        ∷ 390 ∷ 368 ∷ 367 ∷ 345 ∷ 344 ∷ 343 ∷ 342 ∷ 341 ∷ 319 ∷ 318 ∷ 317 ∷ 315 ∷ 314 ∷ 313 ∷ 312 ∷ 311 ∷ 310 ∷ 309
        ∷ 308 ∷ 307 ∷ 306 ∷ 305 ∷ 283 ∷ 282 ∷ 281 ∷ 259 ∷ 258 ∷ 257 ∷ 237 ∷ 236 ∷ 235 ∷ 213 ∷ 212 ∷ 211 ∷ 210 ∷ 196
        ∷ 195 ∷ 181 ∷ 180 ∷ 179 ∷ 166 ∷ 165 ∷ 164 ∷ 163 ∷ 162 ∷ 161 ∷ 160 ∷ 159 ∷ 158 ∷ 157 ∷ 156 ∷ 155 ∷ 154 ∷ 153
        ∷ 152 ∷ 151 ∷ 150 ∷ 149 ∷ 148 ∷ 147 ∷ 146 ∷ 145 ∷ 144 ∷ 143 ∷ 127 ∷ 126 ∷ 125 ∷ 124 ∷ 123 ∷ 122 ∷ 121 ∷ 120
        ∷ 119 ∷ 99 ∷ 98 ∷ 97 ∷ 96 ∷ 95 ∷ 73 ∷ 72 ∷ 71 ∷ 51 ∷ 50 ∷ 49 ∷ 48 ∷ 47 ∷ 27 ∷ 26 ∷ 25 ∷ 24 ∷ 23 ∷ 3 ∷ 2 ∷ 1
        ∷ 0 ∷ [];
    enabled = 4 ∷ 5 ∷ 5 ∷ 4 ∷ 5 ∷ 5 ∷ 4 ∷ 5 ∷ 5 ∷ 4 ∷ 4 ∷ 4 ∷ 3 ∷ 3 ∷ 3 ∷ 3 ∷ 3 ∷ 3 ∷ 3 ∷ 3 ∷ 3 ∷ 3 ∷ 3 ∷ 3 ∷ 3 ∷ 3
        ∷ 4 ∷ 4 ∷ 4 ∷ 6 ∷ 6 ∷ 6 ∷ 6 ∷ 5 ∷ 4 ∷ 6 ∷ 6 ∷ 6 ∷ 6 ∷ 6 ∷ 7 ∷ 7 ∷ 7 ∷ 7 ∷ 8 ∷ 7 ∷ 7 ∷ 8 ∷ 8 ∷ 8 ∷ 7 ∷ 9 ∷ 8
        ∷ 7 ∷ 6 ∷ 5 ∷ 5 ∷ 5 ∷ 5 ∷ 5 ∷ 5 ∷ 5 ∷ 5 ∷ 5 ∷ 5 ∷ 5 ∷ 5 ∷ 6 ∷ 4 ∷ 5 ∷ 10 ∷ 11 ∷ 11 ∷ 12 ∷ 12 ∷ 12 ∷ 12 ∷ 11
        ∷ 11 ∷ 10 ∷ 10 ∷ 9 ∷ 9 ∷ 8 ∷ 8 ∷ 7 ∷ 7 ∷ 6 ∷ 6 ∷ 5 ∷ 5 ∷ 5 ∷ 7 ∷ 7 ∷ 6 ∷ 6 ∷ 5 ∷ 5 ∷ 5 ∷ 6 ∷ 6 ∷ 6 ∷ 6 ∷ 5 ∷ 5
        ∷ 5 ∷ 4 ∷ 3 ∷ 3 ∷ 3 ∷ 3 ∷ 3 ∷ 3 ∷ 3 ∷ 3 ∷ 2 ∷ 2 ∷ 2 ∷ 2 ∷ 2 ∷ 2 ∷ 2 ∷ 2 ∷ 2 ∷ 2 ∷ 1 ∷ 1 ∷ 1 ∷ 1 ∷ 1 ∷ 0 ∷ [];
    finished = 130 ∷ [];
    miscounted = [];
    servers = (item key_c 5 body_u ∷ []) ∷ (item key_d 10 body_k ∷ item key_a 11 body_y ∷ [])
        ∷ (item key_b 9 body_x ∷ []) ∷ [];
  };
}

-- the store of an eviction that a stop cut off is answered while a round is under way
abbrev pub late_store_in_round : Example
late_store_in_round = record {
  plan = record {
    config = sizes 2 2 2 0;
    ops =
        put 0 key_a body_p
        ∷ put 0 key_b body_q
        ∷ put 1 key_a body_r
        ∷ get 1 key_a
        ∷ get 0 key_b
        ∷ get 1 key_b
        ∷ get 0 key_a
        ∷ [];
    orders =
        admit 0 key_a
        ∷ admit 1 key_b
        ∷ snap 14
        ∷ admit 26 key_c
        ∷ snap 30
        ∷ stop 31
        ∷ admit 60 key_a
        ∷ admit 61 key_b
        ∷ admit 68 key_c
        ∷ evict 77 key_b
        ∷ [];
  };
  picks = 2 ∷ 2 ∷ 2 ∷ 2 ∷ 2 ∷ 2 ∷ 0 ∷ 1 ∷ 1 ∷ 0 ∷ 1 ∷ 1 ∷ 2 ∷ 2 ∷ 2 ∷ 2 ∷ 2 ∷ 2 ∷ 2 ∷ 2 ∷ 1 ∷ 1 ∷ 1 ∷ 2 ∷ 2 ∷ 2 ∷ 3
      ∷ 3 ∷ 3 ∷ 4 ∷ 4 ∷ 4 ∷ 4 ∷ 4 ∷ 4 ∷ 2 ∷ 3 ∷ 1 ∷ 0 ∷ 59 ∷ 59 ∷ 59 ∷ 59 ∷ 59 ∷ 59 ∷ 59 ∷ 59 ∷ 59 ∷ 59 ∷ 59 ∷ 59 ∷ 59
      ∷ 59 ∷ 59 ∷ 3 ∷ 3 ∷ 3 ∷ 3 ∷ 3 ∷ 3 ∷ 3 ∷ 3 ∷ 3 ∷ 3 ∷ 3 ∷ 3 ∷ 3 ∷ 3 ∷ 2 ∷ [];
  table = record {
    steps = 93;
    history =
        by_switch 1 1 body_p 9 11
        ∷ by_switch 2 2 body_q 12 14
        ∷ by_switch 3 3 body_r 24 26
        ∷ by_server 4 3 body_r 44 60
        ∷ by_server 5 2 body_q 45 56
        ∷ by_server 7 3 body_r 80 92
        ∷ by_server 6 2 body_q 81 93
        ∷ [];
    control =
        at 5 (Admitted 0 key_a 1)
        ∷ at 8 (Admitted 1 key_b 2)
        ∷ at 21 (Snapped 1 2 2 0)
        ∷ at 21 (SnapItem 0 (item key_a 1 body_p))
        ∷ at 21 (SnapItem 1 (item key_b 2 body_q))
        ∷ at 32 Stopped
        ∷ at 52 (Recovered 3 2)
        ∷ at 52 (RecItem (item key_a 3 body_r))
        ∷ at 52 (RecItem (item key_b 2 body_q))
        ∷ at 65 (Admitted 0 key_a 3)
        ∷ at 68 (Admitted 1 key_b 4)
        ∷ at 74 (Evicted 0 key_a 1)
        ∷ at 77 (Admitted 0 key_c 5)
        ∷ at 91 (Evicted 1 key_b 1)
        ∷ [];
    map =
        item key_a 3 body_r
        ∷ item key_b 2 body_q
        ∷ [];
  };
  course = record {
    bound = 2688;
    left = 351 ∷ 335 ∷ 319 ∷ 318 ∷ 317 ∷ 316 ∷ 315 ∷ 314 ∷ 313 ∷ 312 ∷ 290 ∷ 289 ∷ 288 ∷ 266 ∷ 265 ∷ 264 ∷ 263 ∷ 262
        ∷ 261 ∷ 260 ∷ 259 ∷ 258 ∷ 257 ∷ 256 ∷ 255 ∷ 233 ∷ 232 ∷ 231 ∷ 230 ∷ 229 ∷ 228 ∷ 227 ∷ 226 ∷ 210 ∷ 197 ∷ 189
        ∷ 188 ∷ 187 ∷ 186 ∷ 185 ∷ 184 ∷ 183 ∷ 182 ∷ 181 ∷ 180 ∷ 179 ∷ 178 ∷ 177 ∷ 176 ∷ 175 ∷ 174 ∷ 173 ∷ 172 ∷ 152
        ∷ 151 ∷ 150 ∷ 149 ∷ 129 ∷ 128 ∷ 127 ∷ 126 ∷ 110 ∷ 94 ∷ 93 ∷ 92 ∷ 91 ∷ 90 ∷ 89 ∷ 88 ∷ 87 ∷ 86 ∷ 85 ∷ 82 ∷ 81
        ∷ 72 ∷ 71 ∷ 70 ∷ 69 ∷ 68 ∷ 62 ∷ 61 ∷ 60 ∷ 59 ∷ 39 ∷ 19 ∷ 16 ∷ 15 ∷ 14 ∷ 13 ∷ 12 ∷ 11 ∷ 2 ∷ 1 ∷ 0 ∷ [];
    enabled = 3 ∷ 4 ∷ 3 ∷ 4 ∷ 4 ∷ 3 ∷ 3 ∷ 3 ∷ 2 ∷ 2 ∷ 2 ∷ 2 ∷ 2 ∷ 2 ∷ 3 ∷ 3 ∷ 3 ∷ 4 ∷ 4 ∷ 4 ∷ 3 ∷ 4 ∷ 3 ∷ 2 ∷ 2 ∷ 2
        ∷ 3 ∷ 3 ∷ 3 ∷ 3 ∷ 4 ∷ 5 ∷ 4 ∷ 7 ∷ 7 ∷ 7 ∷ 7 ∷ 6 ∷ 6 ∷ 5 ∷ 5 ∷ 4 ∷ 4 ∷ 3 ∷ 2 ∷ 1 ∷ 1 ∷ 2 ∷ 2 ∷ 1 ∷ 1 ∷ 1 ∷ 3
        ∷ 3 ∷ 3 ∷ 3 ∷ 3 ∷ 3 ∷ 3 ∷ 3 ∷ 4 ∷ 5 ∷ 4 ∷ 5 ∷ 5 ∷ 4 ∷ 4 ∷ 4 ∷ 4 ∷ 4 ∷ 4 ∷ 4 ∷ 4 ∷ 4 ∷ 4 ∷ 4 ∷ 4 ∷ 4 ∷ 4 ∷ 3
        ∷ 3 ∷ 3 ∷ 3 ∷ 3 ∷ 3 ∷ 3 ∷ 3 ∷ 3 ∷ 3 ∷ 3 ∷ 3 ∷ 2 ∷ 1 ∷ 0 ∷ [];
    finished = 93 ∷ [];
    miscounted = [];
    servers = (item key_b 2 body_q ∷ []) ∷ (item key_a 3 body_r ∷ []) ∷ [];
  };
}

-- a removal and a store of evictions that stops cut off come to the next epochs
abbrev pub late_removal_and_store : Example
late_removal_and_store = record {
  plan = record {
    config = sizes 2 2 2 0;
    ops =
        put 0 key_a body_p
        ∷ put 0 key_b body_q
        ∷ get 1 key_a
        ∷ put 1 key_a body_s
        ∷ put 0 key_b body_u
        ∷ get 1 key_a
        ∷ get 0 key_b
        ∷ get 1 key_b
        ∷ [];
    orders =
        admit 0 key_a
        ∷ admit 1 key_b
        ∷ evict 14 key_b
        ∷ snap 19
        ∷ stop 22
        ∷ admit 38 key_b
        ∷ admit 39 key_a
        ∷ evict 49 key_b
        ∷ stop 55
        ∷ admit 71 key_a
        ∷ evict 83 key_a
        ∷ [];
  };
  picks = 2 ∷ 2 ∷ 2 ∷ 2 ∷ 2 ∷ 2 ∷ 0 ∷ 1 ∷ 1 ∷ 0 ∷ 1 ∷ 1 ∷ 2 ∷ 2 ∷ 2 ∷ 2 ∷ 3 ∷ 3 ∷ 2 ∷ 2 ∷ 2 ∷ 2 ∷ 2 ∷ 2 ∷ 2 ∷ 2 ∷ 2
      ∷ 2 ∷ 2 ∷ 2 ∷ 2 ∷ 2 ∷ 2 ∷ 5 ∷ 5 ∷ 5 ∷ 5 ∷ 5 ∷ 5 ∷ 0 ∷ 4 ∷ 4 ∷ 5 ∷ 5 ∷ 3 ∷ 3 ∷ 2 ∷ 3 ∷ 3 ∷ 3 ∷ 3 ∷ 3 ∷ 3 ∷ 3 ∷ 3
      ∷ 3 ∷ 3 ∷ 3 ∷ 3 ∷ 3 ∷ 3 ∷ 3 ∷ 3 ∷ 3 ∷ 3 ∷ 1 ∷ 2 ∷ 2 ∷ 2 ∷ 2 ∷ 1 ∷ 2 ∷ 2 ∷ 3 ∷ 3 ∷ 2 ∷ 59 ∷ 59 ∷ 59 ∷ 59 ∷ 59
      ∷ 59 ∷ 59 ∷ 59 ∷ 59 ∷ 59 ∷ 59 ∷ 59 ∷ 59 ∷ 59 ∷ 59 ∷ 59 ∷ 59 ∷ 59 ∷ 59 ∷ 59 ∷ [];
  table = record {
    steps = 107;
    history =
        by_switch 1 1 body_p 9 11
        ∷ by_switch 2 2 body_q 12 14
        ∷ by_switch 5 3 body_u 47 49
        ∷ by_server 3 1 body_p 76 80
        ∷ by_switch 4 4 body_s 81 83
        ∷ by_server 6 4 body_s 93 97
        ∷ by_server 8 3 body_u 98 102
        ∷ by_server 7 3 body_u 103 107
        ∷ [];
    control =
        at 5 (Admitted 0 key_a 1)
        ∷ at 8 (Admitted 1 key_b 2)
        ∷ at 23 Stopped
        ∷ at 38 (Recovered 2 2)
        ∷ at 38 (RecItem (item key_a 1 body_p))
        ∷ at 38 (RecItem (item key_b 2 body_q))
        ∷ at 43 (Admitted 0 key_b 3)
        ∷ at 46 (Admitted 1 key_a 4)
        ∷ at 56 Stopped
        ∷ at 71 (Recovered 3 2)
        ∷ at 71 (RecItem (item key_a 1 body_p))
        ∷ at 71 (RecItem (item key_b 3 body_u))
        ∷ at 75 (Admitted 0 key_a 5)
        ∷ at 92 (Evicted 0 key_a 1)
        ∷ [];
    map =
        item key_a 4 body_s
        ∷ item key_b 3 body_u
        ∷ [];
  };
  course = record {
    bound = 2944;
    left = 419 ∷ 403 ∷ 387 ∷ 386 ∷ 385 ∷ 384 ∷ 383 ∷ 382 ∷ 381 ∷ 380 ∷ 358 ∷ 357 ∷ 356 ∷ 334 ∷ 333 ∷ 332 ∷ 331 ∷ 330
        ∷ 329 ∷ 328 ∷ 327 ∷ 326 ∷ 325 ∷ 322 ∷ 307 ∷ 299 ∷ 286 ∷ 285 ∷ 284 ∷ 283 ∷ 282 ∷ 281 ∷ 280 ∷ 279 ∷ 278 ∷ 277
        ∷ 276 ∷ 275 ∷ 274 ∷ 258 ∷ 242 ∷ 241 ∷ 240 ∷ 239 ∷ 238 ∷ 237 ∷ 236 ∷ 235 ∷ 213 ∷ 212 ∷ 211 ∷ 210 ∷ 209 ∷ 208
        ∷ 207 ∷ 205 ∷ 204 ∷ 189 ∷ 181 ∷ 168 ∷ 167 ∷ 166 ∷ 165 ∷ 164 ∷ 163 ∷ 162 ∷ 161 ∷ 160 ∷ 159 ∷ 158 ∷ 157 ∷ 156
        ∷ 140 ∷ 139 ∷ 138 ∷ 137 ∷ 136 ∷ 116 ∷ 115 ∷ 114 ∷ 113 ∷ 112 ∷ 90 ∷ 89 ∷ 88 ∷ 87 ∷ 86 ∷ 85 ∷ 84 ∷ 83 ∷ 82 ∷ 81
        ∷ 72 ∷ 71 ∷ 51 ∷ 50 ∷ 49 ∷ 48 ∷ 47 ∷ 27 ∷ 26 ∷ 25 ∷ 24 ∷ 23 ∷ 3 ∷ 2 ∷ 1 ∷ 0 ∷ [];
    enabled = 3 ∷ 4 ∷ 3 ∷ 4 ∷ 4 ∷ 3 ∷ 3 ∷ 3 ∷ 2 ∷ 2 ∷ 2 ∷ 2 ∷ 2 ∷ 2 ∷ 3 ∷ 3 ∷ 3 ∷ 3 ∷ 3 ∷ 4 ∷ 4 ∷ 4 ∷ 6 ∷ 3 ∷ 4 ∷ 5
        ∷ 5 ∷ 5 ∷ 5 ∷ 4 ∷ 4 ∷ 4 ∷ 3 ∷ 4 ∷ 4 ∷ 4 ∷ 3 ∷ 3 ∷ 6 ∷ 7 ∷ 6 ∷ 7 ∷ 7 ∷ 6 ∷ 6 ∷ 6 ∷ 5 ∷ 5 ∷ 5 ∷ 6 ∷ 6 ∷ 6 ∷ 6
        ∷ 5 ∷ 4 ∷ 4 ∷ 4 ∷ 5 ∷ 6 ∷ 6 ∷ 6 ∷ 6 ∷ 5 ∷ 5 ∷ 5 ∷ 4 ∷ 5 ∷ 5 ∷ 5 ∷ 4 ∷ 4 ∷ 4 ∷ 4 ∷ 4 ∷ 4 ∷ 3 ∷ 3 ∷ 3 ∷ 3 ∷ 3
        ∷ 3 ∷ 3 ∷ 3 ∷ 4 ∷ 4 ∷ 4 ∷ 4 ∷ 4 ∷ 3 ∷ 3 ∷ 3 ∷ 3 ∷ 2 ∷ 2 ∷ 2 ∷ 2 ∷ 2 ∷ 2 ∷ 2 ∷ 2 ∷ 2 ∷ 2 ∷ 1 ∷ 1 ∷ 1 ∷ 1 ∷ 1
        ∷ 0 ∷ [];
    finished = 107 ∷ [];
    miscounted = [];
    servers = (item key_b 3 body_u ∷ []) ∷ (item key_a 4 body_s ∷ []) ∷ [];
  };
}

-- orders whose steps have come wait until they are possible
abbrev pub orders_before_their_time : Example
orders_before_their_time = record {
  plan = record {
    config = sizes 2 3 2 0;
    ops =
        put 0 key_a body_p
        ∷ put 1 key_b body_q
        ∷ get 0 key_b
        ∷ put 1 key_a body_r
        ∷ get 1 key_a
        ∷ put 0 key_b body_s
        ∷ [];
    orders =
        admit 0 key_a
        ∷ evict 1 key_a
        ∷ admit 2 key_b
        ∷ admit 3 key_c
        ∷ snap 4
        ∷ snap 5
        ∷ evict 9 key_a
        ∷ evict 9 key_b
        ∷ stop 12
        ∷ stop 13
        ∷ admit 14 key_a
        ∷ evict 15 key_a
        ∷ stop 16
        ∷ snap 17
        ∷ stop 18
        ∷ evict 19 key_b
        ∷ admit 900 key_b
        ∷ snap 901
        ∷ [];
  };
  picks = replicate 117 59;
  table = record {
    steps = 135;
    history =
        by_server 2 1 body_q 93 97
        ∷ by_server 4 2 body_r 98 102
        ∷ by_server 5 2 body_r 103 107
        ∷ by_server 1 3 body_p 108 112
        ∷ by_server 3 1 body_q 113 117
        ∷ by_server 6 4 body_s 118 122
        ∷ [];
    control =
        at 9 (Admitted 1 key_b 2)
        ∷ at 14 (Evicted 1 key_b 1)
        ∷ at 17 (Admitted 1 key_c 3)
        ∷ at 19 (Admitted 0 key_a 1)
        ∷ at 25 (Snapped 1 0 0 0)
        ∷ at 31 (Evicted 0 key_a 1)
        ∷ at 33 Stopped
        ∷ at 46 (Recovered 0 0)
        ∷ at 47 Stopped
        ∷ at 60 (Recovered 0 0)
        ∷ at 62 Stopped
        ∷ at 74 (Recovered 0 0)
        ∷ at 76 Stopped
        ∷ at 88 (Recovered 0 0)
        ∷ at 126 (Admitted 0 key_b 4)
        ∷ at 133 (Snapped 4 4 0 0)
        ∷ [];
    map =
        item key_a 3 body_p
        ∷ item key_b 4 body_s
        ∷ [];
  };
  course = record {
    bound = 6912;
    left = 490 ∷ 474 ∷ 459 ∷ 443 ∷ 442 ∷ 441 ∷ 440 ∷ 439 ∷ 438 ∷ 437 ∷ 436 ∷ 435 ∷ 432 ∷ 431 ∷ 422 ∷ 421 ∷ 420 ∷ 419
        ∷ 418 ∷ 417 ∷ 416 ∷ 415 ∷ 414 ∷ 413 ∷ 412 ∷ 411 ∷ 410 ∷ 409 ∷ 408 ∷ 405 ∷ 404 ∷ 395 ∷ 380 ∷ 379 ∷ 372 ∷ 362
        ∷ 361 ∷ 351 ∷ 350 ∷ 349 ∷ 348 ∷ 347 ∷ 346 ∷ 345 ∷ 344 ∷ 343 ∷ 342 ∷ 341 ∷ 325 ∷ 317 ∷ 307 ∷ 306 ∷ 296 ∷ 295
        ∷ 294 ∷ 293 ∷ 292 ∷ 291 ∷ 290 ∷ 289 ∷ 288 ∷ 273 ∷ 272 ∷ 267 ∷ 257 ∷ 256 ∷ 246 ∷ 245 ∷ 244 ∷ 243 ∷ 242 ∷ 241
        ∷ 240 ∷ 239 ∷ 238 ∷ 237 ∷ 236 ∷ 229 ∷ 219 ∷ 218 ∷ 208 ∷ 207 ∷ 206 ∷ 205 ∷ 204 ∷ 203 ∷ 202 ∷ 201 ∷ 200 ∷ 185
        ∷ 179 ∷ 173 ∷ 172 ∷ 171 ∷ 151 ∷ 150 ∷ 149 ∷ 148 ∷ 147 ∷ 127 ∷ 126 ∷ 125 ∷ 124 ∷ 123 ∷ 103 ∷ 102 ∷ 101 ∷ 100
        ∷ 99 ∷ 79 ∷ 78 ∷ 77 ∷ 76 ∷ 75 ∷ 55 ∷ 54 ∷ 53 ∷ 52 ∷ 51 ∷ 31 ∷ 30 ∷ 29 ∷ 28 ∷ 12 ∷ 11 ∷ 10 ∷ 9 ∷ 8 ∷ 7 ∷ 6 ∷ 5
        ∷ 4 ∷ 3 ∷ 2 ∷ 1 ∷ 0 ∷ [];
    enabled = 3 ∷ 4 ∷ 4 ∷ 4 ∷ 4 ∷ 4 ∷ 5 ∷ 5 ∷ 5 ∷ 5 ∷ 5 ∷ 5 ∷ 5 ∷ 5 ∷ 5 ∷ 5 ∷ 5 ∷ 4 ∷ 4 ∷ 3 ∷ 3 ∷ 4 ∷ 4 ∷ 3 ∷ 3 ∷ 5
        ∷ 6 ∷ 6 ∷ 6 ∷ 6 ∷ 6 ∷ 6 ∷ 6 ∷ 5 ∷ 6 ∷ 6 ∷ 5 ∷ 5 ∷ 7 ∷ 6 ∷ 6 ∷ 5 ∷ 5 ∷ 4 ∷ 4 ∷ 4 ∷ 5 ∷ 5 ∷ 5 ∷ 5 ∷ 5 ∷ 4 ∷ 4
        ∷ 6 ∷ 6 ∷ 5 ∷ 5 ∷ 4 ∷ 4 ∷ 4 ∷ 5 ∷ 5 ∷ 4 ∷ 5 ∷ 5 ∷ 4 ∷ 4 ∷ 6 ∷ 6 ∷ 5 ∷ 5 ∷ 4 ∷ 4 ∷ 4 ∷ 5 ∷ 6 ∷ 4 ∷ 5 ∷ 5 ∷ 4
        ∷ 4 ∷ 6 ∷ 6 ∷ 5 ∷ 5 ∷ 4 ∷ 4 ∷ 4 ∷ 6 ∷ 5 ∷ 4 ∷ 3 ∷ 2 ∷ 2 ∷ 2 ∷ 2 ∷ 2 ∷ 2 ∷ 2 ∷ 2 ∷ 2 ∷ 2 ∷ 2 ∷ 2 ∷ 2 ∷ 2 ∷ 2
        ∷ 1 ∷ 1 ∷ 1 ∷ 1 ∷ 1 ∷ 1 ∷ 1 ∷ 1 ∷ 1 ∷ 1 ∷ 1 ∷ 1 ∷ 1 ∷ 1 ∷ 1 ∷ 1 ∷ 1 ∷ 1 ∷ 1 ∷ 1 ∷ 1 ∷ 1 ∷ 2 ∷ 2 ∷ 1 ∷ 1 ∷ 2
        ∷ 1 ∷ 0 ∷ [];
    finished = 135 ∷ [];
    miscounted = [];
    servers = [] ∷ (item key_a 3 body_p ∷ []) ∷ (item key_b 4 body_s ∷ []) ∷ [];
  };
}
