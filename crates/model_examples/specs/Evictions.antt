-- Worked runs in which slots are freed.
use Rattle.std.specs.Prelude.{[], ◌∷◌, None}
use Rattle.far_base.specs.declared.log.LogEntry.TheVariants.{
  Admitted,
  Evicted,
  Kept,
  RecItem,
  Recovered,
  SnapItem,
  Snapped,
  Stopped,
}
use Rattle.far_base.specs.declared.plan.Order.TheVariants.{Admit as admit, Evict as evict, Snap as snap, Stop as stop}
use Rattle.model_examples.specs.Example.{Example}
use Rattle.model_examples.specs.Words.{
  key_a,
  key_b,
  key_c,
  key_d,
  key_e,
  body_p,
  body_q,
  body_r,
  body_s,
  body_t,
  body_x,
  body_y,
  sizes,
  get,
  put,
  del,
  by_server,
  by_switch,
  at,
  item,
}

-- a write comes between the peek and the removal
abbrev pub write_between : Example
write_between = record {
  plan = record {
    config = sizes 1 1 1 0;
    ops =
        put 0 key_a body_x
        ∷ put 0 key_a body_y
        ∷ get 0 key_a
        ∷ [];
    orders =
        admit 0 key_a
        ∷ evict 7 key_a
        ∷ [];
  };
  picks = 1 ∷ 1 ∷ 1 ∷ 0 ∷ 0 ∷ 0 ∷ 1 ∷ 0 ∷ 1 ∷ 0 ∷ 0 ∷ 1 ∷ 1 ∷ 1 ∷ 1 ∷ 1 ∷ 1 ∷ 1 ∷ 1 ∷ [];
  table = record {
    steps = 26;
    history =
        by_switch 1 1 body_x 5 7
        ∷ by_switch 2 2 body_y 10 13
        ∷ by_server 3 2 body_y 22 26
        ∷ [];
    control =
        at 4 (Admitted 0 key_a 1)
        ∷ at 21 (Evicted 0 key_a 2)
        ∷ [];
    map = item key_a 2 body_y ∷ [];
  };
  course = record {
    bound = 288;
    left = 106 ∷ 90 ∷ 89 ∷ 88 ∷ 87 ∷ 86 ∷ 64 ∷ 63 ∷ 62 ∷ 61 ∷ 60 ∷ 38 ∷ 37 ∷ 36 ∷ 35 ∷ 34 ∷ 33 ∷ 32 ∷ 31 ∷ 30 ∷ 29
        ∷ 24 ∷ 23 ∷ 3 ∷ 2 ∷ 1 ∷ 0 ∷ [];
    enabled = 2 ∷ 2 ∷ 2 ∷ 2 ∷ 1 ∷ 1 ∷ 1 ∷ 2 ∷ 2 ∷ 2 ∷ 2 ∷ 2 ∷ 2 ∷ 2 ∷ 2 ∷ 2 ∷ 2 ∷ 2 ∷ 2 ∷ 2 ∷ 2 ∷ 1 ∷ 1 ∷ 1 ∷ 1 ∷ 1
        ∷ 0 ∷ [];
    finished = 26 ∷ [];
    miscounted = [];
    servers = (item key_a 2 body_y ∷ []) ∷ [];
  };
}

-- a write comes before each of three removals, and the slot stays
abbrev pub three_writes_between : Example
three_writes_between = record {
  plan = record {
    config = sizes 1 1 1 0;
    ops =
        put 0 key_a body_p
        ∷ put 0 key_a body_q
        ∷ put 0 key_a body_r
        ∷ put 0 key_a body_s
        ∷ get 0 key_a
        ∷ [];
    orders =
        admit 0 key_a
        ∷ evict 7 key_a
        ∷ [];
  };
  picks = 1 ∷ 1 ∷ 1 ∷ 0 ∷ 0 ∷ 0 ∷ 1 ∷ 1 ∷ 1 ∷ 1 ∷ 0 ∷ 1 ∷ 1 ∷ 1 ∷ 1 ∷ 1 ∷ 1 ∷ 0 ∷ 1 ∷ 1 ∷ 1 ∷ 1 ∷ 1 ∷ 1 ∷ 0 ∷ 1 ∷ 1
      ∷ 1 ∷ 1 ∷ [];
  table = record {
    steps = 34;
    history =
        by_switch 1 1 body_p 5 7
        ∷ by_switch 2 2 body_q 13 15
        ∷ by_switch 3 3 body_r 20 22
        ∷ by_switch 4 4 body_s 27 29
        ∷ by_switch 5 4 body_s 32 34
        ∷ [];
    control =
        at 4 (Admitted 0 key_a 1)
        ∷ at 31 (Kept 0 key_a 4)
        ∷ [];
    map = item key_a 4 body_s ∷ [];
  };
  course = record {
    bound = 352;
    left = 154 ∷ 138 ∷ 137 ∷ 136 ∷ 135 ∷ 134 ∷ 112 ∷ 111 ∷ 110 ∷ 109 ∷ 108 ∷ 107 ∷ 106 ∷ 105 ∷ 83 ∷ 82 ∷ 81 ∷ 80
        ∷ 79 ∷ 78 ∷ 77 ∷ 55 ∷ 54 ∷ 53 ∷ 52 ∷ 51 ∷ 50 ∷ 49 ∷ 27 ∷ 26 ∷ 25 ∷ 24 ∷ 23 ∷ 1 ∷ 0 ∷ [];
    enabled = 2 ∷ 2 ∷ 2 ∷ 2 ∷ 1 ∷ 1 ∷ 1 ∷ 2 ∷ 2 ∷ 2 ∷ 2 ∷ 2 ∷ 2 ∷ 2 ∷ 2 ∷ 2 ∷ 2 ∷ 2 ∷ 2 ∷ 2 ∷ 2 ∷ 2 ∷ 2 ∷ 2 ∷ 2 ∷ 2
        ∷ 2 ∷ 2 ∷ 2 ∷ 2 ∷ 2 ∷ 1 ∷ 1 ∷ 1 ∷ 0 ∷ [];
    finished = 34 ∷ [];
    miscounted = [];
    servers = (item key_a 3 body_r ∷ []) ∷ [];
  };
}

-- a delete is absorbed, evicted and read
abbrev pub delete_is_evicted : Example
delete_is_evicted = record {
  plan = record {
    config = sizes 1 1 1 0;
    ops =
        del 0 key_a
        ∷ get 0 key_a
        ∷ [];
    orders =
        admit 0 key_a
        ∷ evict 7 key_a
        ∷ [];
  };
  picks = 1 ∷ 1 ∷ 1 ∷ 0 ∷ 0 ∷ 0 ∷ 1 ∷ 1 ∷ 1 ∷ 1 ∷ 1 ∷ 1 ∷ [];
  table = record {
    steps = 19;
    history =
        by_switch 1 1 None 5 7
        ∷ by_server 2 1 None 15 19
        ∷ [];
    control =
        at 4 (Admitted 0 key_a 1)
        ∷ at 14 (Evicted 0 key_a 1)
        ∷ [];
    map = item key_a 1 None ∷ [];
  };
  course = record {
    bound = 256;
    left = 82 ∷ 66 ∷ 65 ∷ 64 ∷ 63 ∷ 62 ∷ 40 ∷ 39 ∷ 38 ∷ 37 ∷ 36 ∷ 35 ∷ 34 ∷ 33 ∷ 24 ∷ 23 ∷ 3 ∷ 2 ∷ 1 ∷ 0 ∷ [];
    enabled = 2 ∷ 2 ∷ 2 ∷ 2 ∷ 1 ∷ 1 ∷ 1 ∷ 2 ∷ 2 ∷ 2 ∷ 2 ∷ 2 ∷ 2 ∷ 2 ∷ 1 ∷ 1 ∷ 1 ∷ 1 ∷ 1 ∷ 0 ∷ [];
    finished = 19 ∷ [];
    miscounted = [];
    servers = (item key_a 1 None ∷ []) ∷ [];
  };
}

-- the hand goes round both slots, and evictions for a want and by an order are given up
abbrev pub hand_goes_round : Example
hand_goes_round = record {
  plan = record {
    config = sizes 2 2 2 0;
    ops =
        put 0 key_a body_p
        ∷ put 0 key_b body_q
        ∷ put 0 key_a body_r
        ∷ put 0 key_a body_s
        ∷ put 0 key_a body_t
        ∷ get 0 key_c
        ∷ get 1 key_d
        ∷ get 1 key_b
        ∷ put 0 key_d body_p
        ∷ put 0 key_d body_r
        ∷ put 0 key_d body_s
        ∷ put 0 key_d body_t
        ∷ get 1 key_d
        ∷ [];
    orders =
        admit 0 key_a
        ∷ admit 1 key_b
        ∷ admit 2 key_a
        ∷ admit 16 key_c
        ∷ admit 18 key_a
        ∷ admit 43 key_d
        ∷ admit 45 key_d
        ∷ admit 54 key_c
        ∷ evict 75 key_d
        ∷ admit 76 key_e
        ∷ evict 110 key_c
        ∷ evict 117 key_e
        ∷ admit 118 key_e
        ∷ [];
  };
  picks = 2 ∷ 2 ∷ 2 ∷ 2 ∷ 2 ∷ 2 ∷ 2 ∷ 0 ∷ 1 ∷ 1 ∷ 0 ∷ 1 ∷ 1 ∷ 2 ∷ 2 ∷ 2 ∷ 2 ∷ 2 ∷ 0 ∷ 2 ∷ 2 ∷ 2 ∷ 2 ∷ 2 ∷ 2 ∷ 0 ∷ 2
      ∷ 2 ∷ 2 ∷ 2 ∷ 2 ∷ 2 ∷ 0 ∷ 2 ∷ 2 ∷ 2 ∷ 2 ∷ 2 ∷ 2 ∷ 2 ∷ 2 ∷ 2 ∷ 2 ∷ 2 ∷ 2 ∷ 2 ∷ 3 ∷ 2 ∷ 2 ∷ 2 ∷ 2 ∷ 2 ∷ 2 ∷ 2 ∷ 2
      ∷ 2 ∷ 2 ∷ 2 ∷ 2 ∷ 0 ∷ 1 ∷ 1 ∷ 1 ∷ 1 ∷ 0 ∷ 1 ∷ 1 ∷ 2 ∷ 2 ∷ 2 ∷ 2 ∷ 0 ∷ 2 ∷ 2 ∷ 2 ∷ 2 ∷ 2 ∷ 2 ∷ 0 ∷ 2 ∷ 2 ∷ 2 ∷ 2
      ∷ 2 ∷ 2 ∷ 0 ∷ 2 ∷ 2 ∷ 1 ∷ 1 ∷ 1 ∷ 1 ∷ 1 ∷ 1 ∷ 1 ∷ 1 ∷ 1 ∷ 1 ∷ 1 ∷ 1 ∷ 1 ∷ 1 ∷ 1 ∷ 1 ∷ 1 ∷ 1 ∷ 59 ∷ 59 ∷ 59 ∷ 59
      ∷ 59 ∷ 59 ∷ 59 ∷ 59 ∷ 59 ∷ 59 ∷ 59 ∷ 59 ∷ 59 ∷ 59 ∷ 59 ∷ 59 ∷ 59 ∷ 59 ∷ 59 ∷ 59 ∷ [];
  table = record {
    steps = 139;
    history =
        by_switch 1 1 body_p 11 13
        ∷ by_switch 2 2 body_q 14 16
        ∷ by_switch 3 3 body_r 24 26
        ∷ by_switch 4 4 body_s 31 33
        ∷ by_switch 5 5 body_t 38 40
        ∷ by_server 6 0 None 68 72
        ∷ by_switch 9 6 body_p 73 75
        ∷ by_switch 10 7 body_r 82 84
        ∷ by_switch 11 8 body_s 89 91
        ∷ by_switch 12 9 body_t 96 98
        ∷ by_server 7 9 body_t 125 129
        ∷ by_server 8 2 body_q 130 134
        ∷ by_server 13 9 body_t 135 139
        ∷ [];
    control =
        at 6 (Admitted 0 key_a 1)
        ∷ at 9 (Admitted 1 key_b 2)
        ∷ at 42 (Kept 0 key_a 5)
        ∷ at 52 (Evicted 1 key_b 1)
        ∷ at 57 (Admitted 1 key_d 3)
        ∷ at 64 (Evicted 0 key_a 1)
        ∷ at 67 (Admitted 0 key_c 4)
        ∷ at 100 (Kept 1 key_d 9)
        ∷ at 107 (Evicted 1 key_d 1)
        ∷ at 110 (Admitted 1 key_e 5)
        ∷ at 117 (Evicted 0 key_c 1)
        ∷ at 124 (Evicted 1 key_e 1)
        ∷ [];
    map =
        item key_a 5 body_t
        ∷ item key_b 2 body_q
        ∷ item key_d 9 body_t
        ∷ [];
  };
  course = record {
    bound = 1056;
    left = 547 ∷ 531 ∷ 515 ∷ 514 ∷ 513 ∷ 512 ∷ 511 ∷ 510 ∷ 509 ∷ 508 ∷ 490 ∷ 489 ∷ 467 ∷ 466 ∷ 465 ∷ 443 ∷ 442 ∷ 441
        ∷ 440 ∷ 439 ∷ 438 ∷ 437 ∷ 436 ∷ 435 ∷ 434 ∷ 412 ∷ 411 ∷ 410 ∷ 409 ∷ 408 ∷ 407 ∷ 406 ∷ 384 ∷ 383 ∷ 382 ∷ 381
        ∷ 380 ∷ 379 ∷ 378 ∷ 356 ∷ 355 ∷ 354 ∷ 350 ∷ 332 ∷ 331 ∷ 330 ∷ 329 ∷ 328 ∷ 327 ∷ 326 ∷ 325 ∷ 324 ∷ 315 ∷ 314
        ∷ 296 ∷ 295 ∷ 294 ∷ 293 ∷ 292 ∷ 291 ∷ 290 ∷ 289 ∷ 288 ∷ 287 ∷ 278 ∷ 277 ∷ 276 ∷ 275 ∷ 274 ∷ 254 ∷ 253 ∷ 252
        ∷ 251 ∷ 250 ∷ 228 ∷ 227 ∷ 226 ∷ 225 ∷ 224 ∷ 223 ∷ 222 ∷ 221 ∷ 220 ∷ 198 ∷ 197 ∷ 196 ∷ 195 ∷ 194 ∷ 193 ∷ 192
        ∷ 170 ∷ 169 ∷ 168 ∷ 167 ∷ 166 ∷ 165 ∷ 164 ∷ 142 ∷ 141 ∷ 140 ∷ 139 ∷ 138 ∷ 137 ∷ 136 ∷ 135 ∷ 134 ∷ 133 ∷ 124
        ∷ 123 ∷ 122 ∷ 121 ∷ 120 ∷ 119 ∷ 118 ∷ 117 ∷ 116 ∷ 115 ∷ 106 ∷ 105 ∷ 89 ∷ 86 ∷ 85 ∷ 82 ∷ 81 ∷ 72 ∷ 71 ∷ 51 ∷ 50
        ∷ 49 ∷ 48 ∷ 47 ∷ 27 ∷ 26 ∷ 25 ∷ 24 ∷ 23 ∷ 3 ∷ 2 ∷ 1 ∷ 0 ∷ [];
    enabled = 3 ∷ 4 ∷ 4 ∷ 3 ∷ 4 ∷ 4 ∷ 3 ∷ 4 ∷ 4 ∷ 3 ∷ 2 ∷ 2 ∷ 2 ∷ 2 ∷ 2 ∷ 2 ∷ 3 ∷ 3 ∷ 4 ∷ 3 ∷ 3 ∷ 3 ∷ 3 ∷ 3 ∷ 3 ∷ 3
        ∷ 3 ∷ 3 ∷ 3 ∷ 3 ∷ 3 ∷ 3 ∷ 3 ∷ 3 ∷ 3 ∷ 3 ∷ 3 ∷ 3 ∷ 3 ∷ 3 ∷ 3 ∷ 3 ∷ 3 ∷ 3 ∷ 3 ∷ 4 ∷ 3 ∷ 3 ∷ 3 ∷ 3 ∷ 3 ∷ 3 ∷ 3
        ∷ 4 ∷ 4 ∷ 4 ∷ 4 ∷ 3 ∷ 3 ∷ 3 ∷ 3 ∷ 3 ∷ 3 ∷ 3 ∷ 3 ∷ 3 ∷ 3 ∷ 2 ∷ 2 ∷ 2 ∷ 2 ∷ 2 ∷ 2 ∷ 2 ∷ 2 ∷ 3 ∷ 4 ∷ 3 ∷ 3 ∷ 3
        ∷ 3 ∷ 3 ∷ 3 ∷ 3 ∷ 3 ∷ 3 ∷ 3 ∷ 3 ∷ 3 ∷ 3 ∷ 3 ∷ 3 ∷ 3 ∷ 3 ∷ 3 ∷ 3 ∷ 3 ∷ 3 ∷ 2 ∷ 2 ∷ 2 ∷ 2 ∷ 2 ∷ 2 ∷ 2 ∷ 2 ∷ 2
        ∷ 2 ∷ 2 ∷ 2 ∷ 2 ∷ 2 ∷ 2 ∷ 2 ∷ 2 ∷ 2 ∷ 2 ∷ 2 ∷ 3 ∷ 3 ∷ 2 ∷ 2 ∷ 2 ∷ 2 ∷ 1 ∷ 1 ∷ 1 ∷ 1 ∷ 1 ∷ 1 ∷ 1 ∷ 1 ∷ 1 ∷ 1
        ∷ 1 ∷ 1 ∷ 1 ∷ 1 ∷ 1 ∷ 0 ∷ [];
    finished = 139 ∷ [];
    miscounted = [];
    servers = (item key_b 2 body_q ∷ item key_d 9 body_t ∷ []) ∷ (item key_a 5 body_t ∷ []) ∷ [];
  };
}

-- slots that are outdated are evicted before, between and after two snapshots
abbrev pub outdated_slot_is_evicted : Example
outdated_slot_is_evicted = record {
  plan = record {
    config = sizes 2 2 2 0;
    ops =
        put 0 key_b body_x
        ∷ get 0 key_a
        ∷ get 1 key_b
        ∷ get 1 key_a
        ∷ get 0 key_a
        ∷ get 1 key_b
        ∷ [];
    orders =
        admit 5 key_a
        ∷ admit 6 key_b
        ∷ evict 13 key_a
        ∷ snap 21
        ∷ evict 30 key_b
        ∷ admit 40 key_a
        ∷ admit 41 key_b
        ∷ snap 58
        ∷ evict 67 key_b
        ∷ stop 68
        ∷ admit 81 key_a
        ∷ admit 82 key_b
        ∷ [];
  };
  picks = 0 ∷ 1 ∷ 1 ∷ 1 ∷ 1 ∷ 2 ∷ 2 ∷ 2 ∷ 2 ∷ 2 ∷ 2 ∷ 2 ∷ 2 ∷ 0 ∷ 2 ∷ 2 ∷ 2 ∷ 2 ∷ 3 ∷ 2 ∷ 3 ∷ 3 ∷ 3 ∷ 3 ∷ 4 ∷ 3 ∷ 3
      ∷ 3 ∷ 3 ∷ 59 ∷ 2 ∷ 2 ∷ 2 ∷ 2 ∷ 2 ∷ 2 ∷ 2 ∷ 2 ∷ 2 ∷ 2 ∷ 2 ∷ 1 ∷ 1 ∷ 1 ∷ 1 ∷ 1 ∷ 1 ∷ 1 ∷ 1 ∷ 1 ∷ 1 ∷ 2 ∷ 2 ∷ 2 ∷ 2
      ∷ 2 ∷ 2 ∷ 2 ∷ 2 ∷ 2 ∷ 2 ∷ 2 ∷ 2 ∷ 2 ∷ 2 ∷ 2 ∷ 2 ∷ 2 ∷ 2 ∷ 2 ∷ 2 ∷ 3 ∷ 3 ∷ 3 ∷ 3 ∷ 3 ∷ 3 ∷ 2 ∷ [];
  table = record {
    steps = 100;
    history =
        by_server 1 1 body_x 1 5
        ∷ by_server 2 0 None 17 21
        ∷ by_server 3 1 body_x 49 53
        ∷ by_server 4 0 None 54 58
        ∷ by_server 5 0 None 91 99
        ∷ by_server 6 1 body_x 92 100
        ∷ [];
    control =
        at 10 (Admitted 0 key_a 1)
        ∷ at 13 (Admitted 1 key_b 2)
        ∷ at 30 (Evicted 0 key_a 2)
        ∷ at 35 (Evicted 1 key_b 1)
        ∷ at 38 (Snapped 1 1 1 0)
        ∷ at 38 (SnapItem 0 (item key_a 0 None))
        ∷ at 45 (Admitted 0 key_a 3)
        ∷ at 48 (Admitted 1 key_b 4)
        ∷ at 65 (Snapped 2 1 2 1)
        ∷ at 65 (SnapItem 0 (item key_a 0 None))
        ∷ at 65 (SnapItem 1 (item key_b 1 body_x))
        ∷ at 69 Stopped
        ∷ at 81 (Recovered 1 1)
        ∷ at 81 (RecItem (item key_b 1 body_x))
        ∷ at 86 (Admitted 0 key_a 5)
        ∷ at 89 (Admitted 1 key_b 6)
        ∷ [];
    map = item key_b 1 body_x ∷ [];
  };
  course = record {
    bound = 2816;
    left = 354 ∷ 353 ∷ 333 ∷ 332 ∷ 331 ∷ 330 ∷ 314 ∷ 298 ∷ 297 ∷ 296 ∷ 295 ∷ 294 ∷ 293 ∷ 292 ∷ 291 ∷ 290 ∷ 287 ∷ 286
        ∷ 266 ∷ 265 ∷ 264 ∷ 263 ∷ 262 ∷ 261 ∷ 260 ∷ 259 ∷ 258 ∷ 257 ∷ 256 ∷ 255 ∷ 250 ∷ 249 ∷ 248 ∷ 245 ∷ 244 ∷ 235
        ∷ 233 ∷ 232 ∷ 231 ∷ 230 ∷ 229 ∷ 213 ∷ 197 ∷ 196 ∷ 195 ∷ 194 ∷ 193 ∷ 192 ∷ 191 ∷ 190 ∷ 170 ∷ 169 ∷ 168 ∷ 167
        ∷ 166 ∷ 146 ∷ 145 ∷ 144 ∷ 143 ∷ 142 ∷ 141 ∷ 140 ∷ 139 ∷ 138 ∷ 137 ∷ 136 ∷ 135 ∷ 134 ∷ 133 ∷ 132 ∷ 117 ∷ 107
        ∷ 97 ∷ 96 ∷ 95 ∷ 94 ∷ 93 ∷ 92 ∷ 91 ∷ 90 ∷ 89 ∷ 88 ∷ 72 ∷ 56 ∷ 55 ∷ 54 ∷ 53 ∷ 52 ∷ 51 ∷ 50 ∷ 48 ∷ 47 ∷ 46 ∷ 26
        ∷ 6 ∷ 5 ∷ 4 ∷ 3 ∷ 2 ∷ 1 ∷ 0 ∷ [];
    enabled = 2 ∷ 2 ∷ 2 ∷ 2 ∷ 2 ∷ 3 ∷ 4 ∷ 3 ∷ 4 ∷ 4 ∷ 3 ∷ 3 ∷ 3 ∷ 3 ∷ 3 ∷ 3 ∷ 3 ∷ 3 ∷ 3 ∷ 3 ∷ 3 ∷ 4 ∷ 4 ∷ 4 ∷ 4 ∷ 4
        ∷ 4 ∷ 4 ∷ 5 ∷ 4 ∷ 4 ∷ 4 ∷ 4 ∷ 4 ∷ 4 ∷ 3 ∷ 3 ∷ 3 ∷ 4 ∷ 3 ∷ 3 ∷ 4 ∷ 3 ∷ 4 ∷ 4 ∷ 3 ∷ 3 ∷ 3 ∷ 2 ∷ 2 ∷ 2 ∷ 2 ∷ 2
        ∷ 2 ∷ 2 ∷ 2 ∷ 2 ∷ 2 ∷ 3 ∷ 3 ∷ 3 ∷ 4 ∷ 4 ∷ 4 ∷ 3 ∷ 4 ∷ 3 ∷ 3 ∷ 4 ∷ 3 ∷ 5 ∷ 5 ∷ 5 ∷ 5 ∷ 4 ∷ 3 ∷ 4 ∷ 4 ∷ 4 ∷ 3
        ∷ 3 ∷ 4 ∷ 5 ∷ 4 ∷ 5 ∷ 5 ∷ 4 ∷ 4 ∷ 4 ∷ 3 ∷ 2 ∷ 2 ∷ 2 ∷ 2 ∷ 2 ∷ 2 ∷ 2 ∷ 2 ∷ 2 ∷ 1 ∷ 0 ∷ [];
    finished = 100 ∷ [];
    miscounted = [];
    servers = (item key_b 1 body_x ∷ []) ∷ [] ∷ [];
  };
}
