-- Worked runs in which the switch stops at a packet of a named kind.
use Rattle.std.specs.Prelude.{[], ◌∷◌, None}
use Rattle.far_base.specs.declared.log.LogEntry.TheVariants.{Admitted, Evicted, RecItem, Recovered, Snapped, Stopped}
use Rattle.far_base.specs.declared.plan.Order.TheVariants.{
  Admit as admit,
  Evict as evict,
  Snap as snap,
  Stop as stop,
  StopAt as stop_at,
}
use Rattle.far_base.specs.declared.plan.PassKind.TheVariants.{
  Admit as AdmitPass,
  GetRep as GetRepPass,
  GetReq as GetReqPass,
  Peek as PeekPass,
  Remove as RemovePass,
  SnapRead as SnapReadPass,
  SnapStart as SnapStartPass,
  WriteRep as WriteRepPass,
  WriteReq as WriteReqPass,
}
use Rattle.model_examples.specs.Example.{Example}
use Rattle.model_examples.specs.Words.{
  key_a,
  key_b,
  key_c,
  body_p,
  body_q,
  body_x,
  body_y,
  body_z,
  sizes,
  get,
  put,
  del,
  by_server,
  at,
  item,
}

-- the switch stops once a write has come to it
abbrev pub stop_at_write : Example
stop_at_write = record {
  plan = record {
    config = sizes 1 1 1 0;
    ops = put 0 key_a body_x ∷ [];
    orders = stop_at WriteReqPass 1 ∷ [];
  };
  picks = [];
  table = record {
    steps = 12;
    history = by_server 1 1 body_x 1 12 ∷ [];
    control =
        at 3 Stopped
        ∷ at 10 (Recovered 1 1)
        ∷ at 10 (RecItem (item key_a 1 body_x))
        ∷ [];
    map = item key_a 1 body_x ∷ [];
  };
  course = record {
    bound = 320;
    left = 36 ∷ 35 ∷ 15 ∷ 14 ∷ 13 ∷ 10 ∷ 6 ∷ 5 ∷ 4 ∷ 3 ∷ 2 ∷ 1 ∷ 0 ∷ [];
    enabled = 1 ∷ 1 ∷ 2 ∷ 1 ∷ 1 ∷ 1 ∷ 1 ∷ 1 ∷ 1 ∷ 1 ∷ 1 ∷ 1 ∷ 0 ∷ [];
    finished = 12 ∷ [];
    miscounted = [];
    servers = (item key_a 1 body_x ∷ []) ∷ [];
  };
}

-- the named packet never comes: the switch stops where nothing else can happen, and the other orders follow
abbrev pub stop_at_no_peek : Example
stop_at_no_peek = record {
  plan = record {
    config = sizes 2 2 1 0;
    ops = put 0 key_a body_x ∷ [];
    orders =
        evict 2 key_a
        ∷ stop_at PeekPass 3
        ∷ evict 25 key_a
        ∷ evict 3 key_a
        ∷ evict 18 key_a
        ∷ [];
  };
  picks = 1 ∷ 0 ∷ 0 ∷ 0 ∷ 1 ∷ 2 ∷ 0 ∷ 0 ∷ 2 ∷ 573934 ∷ [];
  table = record {
    steps = 20;
    history = by_server 1 1 body_x 1 6 ∷ [];
    control =
        at 7 Stopped
        ∷ at 17 (Recovered 1 1)
        ∷ at 17 (RecItem (item key_a 1 body_x))
        ∷ [];
    map = item key_a 1 body_x ∷ [];
  };
  course = record {
    bound = 704;
    left = 100 ∷ 99 ∷ 79 ∷ 64 ∷ 63 ∷ 62 ∷ 61 ∷ 60 ∷ 57 ∷ 53 ∷ 52 ∷ 51 ∷ 50 ∷ 49 ∷ 48 ∷ 47 ∷ 46 ∷ 45 ∷ 30 ∷ 15 ∷ 0
        ∷ [];
    enabled = 1 ∷ 1 ∷ 2 ∷ 1 ∷ 1 ∷ 1 ∷ 1 ∷ 1 ∷ 2 ∷ 2 ∷ 2 ∷ 1 ∷ 2 ∷ 2 ∷ 2 ∷ 1 ∷ 1 ∷ 1 ∷ 1 ∷ 1 ∷ 0 ∷ [];
    finished = 20 ∷ [];
    miscounted = [];
    servers = [] ∷ (item key_a 1 body_x ∷ []) ∷ [];
  };
}

-- the switch stops once three writes have come to it
abbrev pub stop_at_third_write : Example
stop_at_third_write = record {
  plan = record {
    config = sizes 2 1 3 0;
    ops =
        get 0 key_b
        ∷ get 0 key_a
        ∷ del 0 key_b
        ∷ del 0 key_b
        ∷ get 1 key_b
        ∷ put 1 key_c body_x
        ∷ get 0 key_a
        ∷ put 1 key_b body_y
        ∷ get 1 key_c
        ∷ put 0 key_b body_z
        ∷ get 0 key_c
        ∷ del 0 key_a
        ∷ [];
    orders = stop_at WriteReqPass 3 ∷ [];
  };
  picks = 0 ∷ 2 ∷ 32 ∷ 2 ∷ 41 ∷ 8 ∷ 0 ∷ 14 ∷ 2 ∷ 0 ∷ 0 ∷ 619199 ∷ 165475 ∷ 0 ∷ 18 ∷ 1 ∷ 0 ∷ 2 ∷ 1 ∷ 31 ∷ 14 ∷ 1
      ∷ 852948 ∷ 720086 ∷ 0 ∷ 2 ∷ 2 ∷ 1 ∷ 19 ∷ 1 ∷ 1 ∷ 0 ∷ 1 ∷ 1 ∷ 0 ∷ 50660 ∷ 0 ∷ 11 ∷ 0 ∷ 0 ∷ 997892 ∷ 687266 ∷ 2
      ∷ 0 ∷ 36 ∷ 0 ∷ 1 ∷ 2 ∷ 0 ∷ 548877 ∷ 0 ∷ 1 ∷ 2 ∷ 2 ∷ 1 ∷ 0 ∷ 20 ∷ 2 ∷ [];
  table = record {
    steps = 69;
    history =
        by_server 1 0 None 1 11
        ∷ by_server 5 0 None 2 9
        ∷ by_server 2 0 None 14 23
        ∷ by_server 6 1 body_x 10 16
        ∷ by_server 8 2 body_y 17 28
        ∷ by_server 9 1 body_x 33 46
        ∷ by_server 3 3 None 24 42
        ∷ by_server 4 4 None 43 49
        ∷ by_server 7 0 None 50 54
        ∷ by_server 10 5 body_z 55 59
        ∷ by_server 11 1 body_x 60 64
        ∷ by_server 12 6 None 65 69
        ∷ [];
    control =
        at 27 Stopped
        ∷ at 38 (Recovered 3 2)
        ∷ at 38 (RecItem (item key_b 3 None))
        ∷ at 38 (RecItem (item key_c 1 body_x))
        ∷ [];
    map =
        item key_a 6 None
        ∷ item key_b 5 body_z
        ∷ item key_c 1 body_x
        ∷ [];
  };
  course = record {
    bound = 1216;
    left = 339 ∷ 338 ∷ 337 ∷ 317 ∷ 297 ∷ 296 ∷ 295 ∷ 294 ∷ 293 ∷ 292 ∷ 291 ∷ 290 ∷ 270 ∷ 269 ∷ 268 ∷ 267 ∷ 266 ∷ 265
        ∷ 245 ∷ 244 ∷ 243 ∷ 223 ∷ 222 ∷ 221 ∷ 220 ∷ 219 ∷ 199 ∷ 198 ∷ 197 ∷ 196 ∷ 189 ∷ 164 ∷ 151 ∷ 150 ∷ 149 ∷ 148
        ∷ 147 ∷ 146 ∷ 145 ∷ 125 ∷ 124 ∷ 123 ∷ 122 ∷ 121 ∷ 120 ∷ 100 ∷ 99 ∷ 98 ∷ 97 ∷ 96 ∷ 95 ∷ 75 ∷ 74 ∷ 73 ∷ 72 ∷ 71
        ∷ 51 ∷ 50 ∷ 49 ∷ 48 ∷ 47 ∷ 27 ∷ 26 ∷ 25 ∷ 24 ∷ 23 ∷ 3 ∷ 2 ∷ 1 ∷ 0 ∷ [];
    enabled = 2 ∷ 2 ∷ 2 ∷ 2 ∷ 2 ∷ 2 ∷ 2 ∷ 2 ∷ 2 ∷ 2 ∷ 2 ∷ 2 ∷ 2 ∷ 2 ∷ 2 ∷ 2 ∷ 2 ∷ 2 ∷ 2 ∷ 2 ∷ 2 ∷ 2 ∷ 2 ∷ 2 ∷ 2 ∷ 2
        ∷ 3 ∷ 2 ∷ 2 ∷ 2 ∷ 3 ∷ 3 ∷ 3 ∷ 2 ∷ 1 ∷ 1 ∷ 1 ∷ 1 ∷ 2 ∷ 2 ∷ 2 ∷ 2 ∷ 2 ∷ 2 ∷ 2 ∷ 2 ∷ 1 ∷ 1 ∷ 1 ∷ 1 ∷ 1 ∷ 1 ∷ 1
        ∷ 1 ∷ 1 ∷ 1 ∷ 1 ∷ 1 ∷ 1 ∷ 1 ∷ 1 ∷ 1 ∷ 1 ∷ 1 ∷ 1 ∷ 1 ∷ 1 ∷ 1 ∷ 1 ∷ 0 ∷ [];
    finished = 69 ∷ [];
    miscounted = [];
    servers = (item key_c 1 body_x ∷ item key_b 5 body_z ∷ item key_a 6 None ∷ []) ∷ [];
  };
}

-- what has come to the switch outlives a stop: the second is due by a write that came before the first
abbrev pub stop_after_restart : Example
stop_after_restart = record {
  plan = record {
    config = sizes 2 2 2 1;
    ops =
        get 1 key_a
        ∷ get 0 key_a
        ∷ put 0 key_a body_x
        ∷ put 1 key_a body_y
        ∷ put 1 key_a body_z
        ∷ put 0 key_a body_p
        ∷ put 0 key_a body_q
        ∷ [];
    orders =
        admit 0 key_a
        ∷ stop_at GetRepPass 5
        ∷ admit 70 key_a
        ∷ evict 0 key_a
        ∷ stop_at WriteReqPass 1
        ∷ admit 0 key_a
        ∷ admit 51 key_a
        ∷ stop 76
        ∷ [];
  };
  picks = [];
  table = record {
    steps = 94;
    history =
        by_server 2 0 None 2 12
        ∷ by_server 1 0 None 3 14
        ∷ by_server 3 1 body_x 13 24
        ∷ by_server 4 2 body_y 15 26
        ∷ by_server 6 3 body_p 25 36
        ∷ by_server 5 4 body_z 27 38
        ∷ by_server 7 5 body_q 37 43
        ∷ [];
    control =
        at 46 (Admitted 0 key_a 1)
        ∷ at 54 Stopped
        ∷ at 64 (Recovered 5 1)
        ∷ at 64 (RecItem (item key_a 5 body_q))
        ∷ at 67 Stopped
        ∷ at 82 (Recovered 5 1)
        ∷ at 82 (RecItem (item key_a 5 body_q))
        ∷ at 83 Stopped
        ∷ at 93 (Recovered 5 1)
        ∷ at 93 (RecItem (item key_a 5 body_q))
        ∷ [];
    map = item key_a 5 body_q ∷ [];
  };
  course = record {
    bound = 2432;
    left = 367 ∷ 351 ∷ 350 ∷ 349 ∷ 348 ∷ 347 ∷ 346 ∷ 330 ∷ 329 ∷ 328 ∷ 327 ∷ 326 ∷ 325 ∷ 324 ∷ 323 ∷ 322 ∷ 321 ∷ 320
        ∷ 319 ∷ 318 ∷ 317 ∷ 316 ∷ 315 ∷ 314 ∷ 313 ∷ 312 ∷ 311 ∷ 310 ∷ 309 ∷ 308 ∷ 307 ∷ 306 ∷ 305 ∷ 304 ∷ 303 ∷ 302
        ∷ 301 ∷ 300 ∷ 299 ∷ 298 ∷ 297 ∷ 296 ∷ 295 ∷ 294 ∷ 293 ∷ 292 ∷ 291 ∷ 273 ∷ 255 ∷ 237 ∷ 219 ∷ 201 ∷ 183 ∷ 180
        ∷ 179 ∷ 174 ∷ 161 ∷ 151 ∷ 150 ∷ 149 ∷ 148 ∷ 147 ∷ 146 ∷ 145 ∷ 144 ∷ 128 ∷ 113 ∷ 112 ∷ 96 ∷ 95 ∷ 94 ∷ 76 ∷ 73
        ∷ 68 ∷ 55 ∷ 45 ∷ 44 ∷ 43 ∷ 42 ∷ 41 ∷ 40 ∷ 39 ∷ 38 ∷ 37 ∷ 32 ∷ 19 ∷ 9 ∷ 8 ∷ 7 ∷ 6 ∷ 5 ∷ 4 ∷ 3 ∷ 2 ∷ 0 ∷ [];
    enabled = 3 ∷ 3 ∷ 3 ∷ 3 ∷ 4 ∷ 5 ∷ 5 ∷ 4 ∷ 4 ∷ 3 ∷ 3 ∷ 3 ∷ 3 ∷ 3 ∷ 3 ∷ 3 ∷ 4 ∷ 5 ∷ 5 ∷ 4 ∷ 4 ∷ 3 ∷ 3 ∷ 3 ∷ 3 ∷ 3
        ∷ 3 ∷ 3 ∷ 4 ∷ 5 ∷ 5 ∷ 4 ∷ 4 ∷ 3 ∷ 3 ∷ 3 ∷ 3 ∷ 3 ∷ 2 ∷ 3 ∷ 3 ∷ 2 ∷ 2 ∷ 1 ∷ 2 ∷ 2 ∷ 1 ∷ 1 ∷ 1 ∷ 1 ∷ 1 ∷ 1 ∷ 1
        ∷ 1 ∷ 1 ∷ 2 ∷ 2 ∷ 2 ∷ 1 ∷ 2 ∷ 2 ∷ 2 ∷ 1 ∷ 1 ∷ 1 ∷ 2 ∷ 2 ∷ 3 ∷ 3 ∷ 2 ∷ 2 ∷ 2 ∷ 1 ∷ 2 ∷ 2 ∷ 2 ∷ 1 ∷ 2 ∷ 2 ∷ 2
        ∷ 1 ∷ 1 ∷ 2 ∷ 1 ∷ 2 ∷ 2 ∷ 2 ∷ 1 ∷ 2 ∷ 2 ∷ 2 ∷ 1 ∷ 1 ∷ 1 ∷ 0 ∷ [];
    finished = 94 ∷ [];
    miscounted = [];
    servers = [] ∷ (item key_a 5 body_q ∷ []) ∷ [];
  };
}

-- the start of a snapshot by difference counts as a start: the switch stops at the second
abbrev pub stop_at_second_start : Example
stop_at_second_start = record {
  plan = record {
    config = sizes 1 1 1 0;
    ops = put 0 key_a body_x ∷ [];
    orders =
        snap 0
        ∷ snap 0
        ∷ stop_at SnapStartPass 2
        ∷ [];
  };
  picks = [];
  table = record {
    steps = 22;
    history = by_server 1 1 body_x 2 11 ∷ [];
    control =
        at 9 (Snapped 1 0 0 0)
        ∷ at 14 Stopped
        ∷ at 21 (Recovered 1 1)
        ∷ at 21 (RecItem (item key_a 1 body_x))
        ∷ [];
    map = item key_a 1 body_x ∷ [];
  };
  course = record {
    bound = 640;
    left = 48 ∷ 47 ∷ 46 ∷ 45 ∷ 25 ∷ 24 ∷ 23 ∷ 22 ∷ 21 ∷ 20 ∷ 19 ∷ 18 ∷ 17 ∷ 16 ∷ 14 ∷ 13 ∷ 9 ∷ 5 ∷ 4 ∷ 3 ∷ 2 ∷ 1 ∷ 0
        ∷ [];
    enabled = 2 ∷ 2 ∷ 2 ∷ 2 ∷ 2 ∷ 2 ∷ 2 ∷ 2 ∷ 2 ∷ 3 ∷ 3 ∷ 2 ∷ 1 ∷ 2 ∷ 1 ∷ 1 ∷ 1 ∷ 1 ∷ 1 ∷ 1 ∷ 1 ∷ 1 ∷ 0 ∷ [];
    finished = 22 ∷ [];
    miscounted = [];
    servers = (item key_a 1 body_x ∷ []) ∷ [];
  };
}

-- an admission of the first epoch, which the switch drops, counts
abbrev pub stop_at_dropped : Example
stop_at_dropped = record {
  plan = record {
    config = sizes 1 1 1 0;
    ops =
        put 0 key_b body_x
        ∷ put 0 key_b body_y
        ∷ [];
    orders =
        admit 0 key_a
        ∷ stop 2
        ∷ stop_at AdmitPass 1
        ∷ [];
  };
  picks = 1 ∷ 1 ∷ [];
  table = record {
    steps = 27;
    history =
        by_server 1 1 body_x 5 22
        ∷ by_server 2 2 body_y 23 27
        ∷ [];
    control =
        at 3 Stopped
        ∷ at 10 (Recovered 0 0)
        ∷ at 12 Stopped
        ∷ at 18 (Recovered 0 0)
        ∷ [];
    map = item key_b 2 body_y ∷ [];
  };
  course = record {
    bound = 672;
    left = 97 ∷ 81 ∷ 80 ∷ 79 ∷ 76 ∷ 75 ∷ 68 ∷ 67 ∷ 66 ∷ 65 ∷ 64 ∷ 62 ∷ 61 ∷ 58 ∷ 51 ∷ 50 ∷ 49 ∷ 48 ∷ 47 ∷ 27 ∷ 26
        ∷ 25 ∷ 24 ∷ 23 ∷ 3 ∷ 2 ∷ 1 ∷ 0 ∷ [];
    enabled = 2 ∷ 2 ∷ 3 ∷ 2 ∷ 2 ∷ 1 ∷ 1 ∷ 1 ∷ 1 ∷ 1 ∷ 2 ∷ 2 ∷ 1 ∷ 1 ∷ 1 ∷ 1 ∷ 1 ∷ 1 ∷ 1 ∷ 1 ∷ 1 ∷ 1 ∷ 1 ∷ 1 ∷ 1 ∷ 1
        ∷ 1 ∷ 0 ∷ [];
    finished = 27 ∷ [];
    miscounted = [];
    servers = (item key_b 2 body_y ∷ []) ∷ [];
  };
}

-- two stops are due by one write: the second waits until the switch runs again
abbrev pub stop_twice_at_write : Example
stop_twice_at_write = record {
  plan = record {
    config = sizes 1 1 1 0;
    ops = put 0 key_a body_x ∷ [];
    orders =
        stop_at WriteReqPass 1
        ∷ stop_at WriteReqPass 1
        ∷ [];
  };
  picks = [];
  table = record {
    steps = 19;
    history = by_server 1 1 body_x 1 19 ∷ [];
    control =
        at 3 Stopped
        ∷ at 10 (Recovered 1 1)
        ∷ at 10 (RecItem (item key_a 1 body_x))
        ∷ at 11 Stopped
        ∷ at 17 (Recovered 1 1)
        ∷ at 17 (RecItem (item key_a 1 body_x))
        ∷ [];
    map = item key_a 1 body_x ∷ [];
  };
  course = record {
    bound = 480;
    left = 48 ∷ 47 ∷ 27 ∷ 26 ∷ 25 ∷ 22 ∷ 18 ∷ 17 ∷ 16 ∷ 15 ∷ 14 ∷ 13 ∷ 10 ∷ 6 ∷ 5 ∷ 4 ∷ 3 ∷ 2 ∷ 1 ∷ 0 ∷ [];
    enabled = 1 ∷ 1 ∷ 2 ∷ 1 ∷ 1 ∷ 1 ∷ 1 ∷ 1 ∷ 1 ∷ 1 ∷ 2 ∷ 1 ∷ 1 ∷ 1 ∷ 1 ∷ 1 ∷ 1 ∷ 1 ∷ 1 ∷ 0 ∷ [];
    finished = 19 ∷ [];
    miscounted = [];
    servers = (item key_a 1 body_x ∷ []) ∷ [];
  };
}

-- the switch stops at the first packet of each kind that belongs to an operation
abbrev pub stop_at_requests : Example
stop_at_requests = record {
  plan = record {
    config = sizes 2 2 1 0;
    ops =
        get 0 key_a
        ∷ put 1 key_b body_x
        ∷ get 0 key_b
        ∷ [];
    orders =
        stop_at GetReqPass 1
        ∷ stop_at WriteReqPass 1
        ∷ stop_at GetRepPass 1
        ∷ stop_at WriteRepPass 1
        ∷ [];
  };
  picks = [];
  table = record {
    steps = 59;
    history =
        by_server 1 0 None 1 31
        ∷ by_server 2 1 body_x 2 45
        ∷ by_server 3 1 body_x 32 59
        ∷ [];
    control =
        at 4 Stopped
        ∷ at 15 (Recovered 0 0)
        ∷ at 17 Stopped
        ∷ at 28 (Recovered 1 1)
        ∷ at 28 (RecItem (item key_b 1 body_x))
        ∷ at 30 Stopped
        ∷ at 42 (Recovered 1 1)
        ∷ at 42 (RecItem (item key_b 1 body_x))
        ∷ at 44 Stopped
        ∷ at 55 (Recovered 1 1)
        ∷ at 55 (RecItem (item key_b 1 body_x))
        ∷ [];
    map = item key_b 1 body_x ∷ [];
  };
  course = record {
    bound = 1440;
    left = 160 ∷ 159 ∷ 158 ∷ 138 ∷ 137 ∷ 136 ∷ 133 ∷ 126 ∷ 122 ∷ 121 ∷ 120 ∷ 119 ∷ 118 ∷ 117 ∷ 116 ∷ 115 ∷ 95 ∷ 94
        ∷ 93 ∷ 90 ∷ 83 ∷ 79 ∷ 78 ∷ 77 ∷ 76 ∷ 75 ∷ 74 ∷ 73 ∷ 72 ∷ 71 ∷ 70 ∷ 69 ∷ 68 ∷ 65 ∷ 58 ∷ 54 ∷ 53 ∷ 52 ∷ 51 ∷ 50
        ∷ 49 ∷ 48 ∷ 47 ∷ 46 ∷ 45 ∷ 44 ∷ 41 ∷ 34 ∷ 30 ∷ 29 ∷ 28 ∷ 27 ∷ 26 ∷ 25 ∷ 24 ∷ 23 ∷ 3 ∷ 2 ∷ 1 ∷ 0 ∷ [];
    enabled = 2 ∷ 2 ∷ 2 ∷ 3 ∷ 1 ∷ 1 ∷ 2 ∷ 2 ∷ 2 ∷ 1 ∷ 2 ∷ 2 ∷ 2 ∷ 1 ∷ 1 ∷ 2 ∷ 3 ∷ 1 ∷ 1 ∷ 2 ∷ 2 ∷ 2 ∷ 1 ∷ 2 ∷ 2 ∷ 2
        ∷ 1 ∷ 1 ∷ 2 ∷ 3 ∷ 1 ∷ 2 ∷ 1 ∷ 2 ∷ 2 ∷ 2 ∷ 1 ∷ 2 ∷ 2 ∷ 2 ∷ 1 ∷ 1 ∷ 2 ∷ 3 ∷ 1 ∷ 1 ∷ 2 ∷ 2 ∷ 2 ∷ 1 ∷ 2 ∷ 2 ∷ 2
        ∷ 1 ∷ 1 ∷ 1 ∷ 1 ∷ 1 ∷ 1 ∷ 0 ∷ [];
    finished = 59 ∷ [];
    miscounted = [];
    servers = (item key_b 1 body_x ∷ []) ∷ [] ∷ [];
  };
}

-- the switch stops at a packet of each kind that the controller sends
abbrev pub stop_at_control : Example
stop_at_control = record {
  plan = record {
    config = sizes 1 1 2 0;
    ops =
        put 0 key_a body_x
        ∷ put 0 key_a body_y
        ∷ [];
    orders =
        admit 0 key_a
        ∷ stop_at AdmitPass 1
        ∷ admit 900 key_a
        ∷ evict 900 key_a
        ∷ stop_at PeekPass 1
        ∷ admit 900 key_a
        ∷ evict 900 key_a
        ∷ stop_at RemovePass 2
        ∷ snap 0
        ∷ stop_at SnapStartPass 1
        ∷ snap 0
        ∷ stop_at SnapReadPass 1
        ∷ [];
  };
  picks = [];
  table = record {
    steps = 73;
    history =
        by_server 1 1 body_x 2 6
        ∷ by_server 2 2 body_y 7 11
        ∷ [];
    control =
        at 14 Stopped
        ∷ at 15 (Admitted 0 key_a 1)
        ∷ at 21 (Recovered 2 1)
        ∷ at 21 (RecItem (item key_a 2 body_y))
        ∷ at 25 (Admitted 0 key_a 2)
        ∷ at 28 Stopped
        ∷ at 35 (Recovered 2 1)
        ∷ at 35 (RecItem (item key_a 2 body_y))
        ∷ at 40 (Admitted 0 key_a 3)
        ∷ at 45 Stopped
        ∷ at 46 (Evicted 0 key_a 1)
        ∷ at 52 (Recovered 2 1)
        ∷ at 52 (RecItem (item key_a 2 body_y))
        ∷ at 55 Stopped
        ∷ at 62 (Recovered 2 1)
        ∷ at 62 (RecItem (item key_a 2 body_y))
        ∷ at 65 Stopped
        ∷ at 71 (Recovered 2 1)
        ∷ at 71 (RecItem (item key_a 2 body_y))
        ∷ [];
    map = item key_a 2 body_y ∷ [];
  };
  course = record {
    bound = 3072;
    left = 236 ∷ 220 ∷ 219 ∷ 199 ∷ 198 ∷ 197 ∷ 196 ∷ 195 ∷ 175 ∷ 174 ∷ 173 ∷ 172 ∷ 171 ∷ 170 ∷ 169 ∷ 168 ∷ 163 ∷ 156
        ∷ 155 ∷ 154 ∷ 153 ∷ 152 ∷ 136 ∷ 135 ∷ 134 ∷ 133 ∷ 132 ∷ 131 ∷ 130 ∷ 127 ∷ 114 ∷ 107 ∷ 106 ∷ 105 ∷ 104 ∷ 103
        ∷ 101 ∷ 85 ∷ 84 ∷ 83 ∷ 82 ∷ 81 ∷ 80 ∷ 77 ∷ 76 ∷ 75 ∷ 66 ∷ 61 ∷ 54 ∷ 53 ∷ 52 ∷ 51 ∷ 50 ∷ 49 ∷ 48 ∷ 45 ∷ 44 ∷ 38
        ∷ 31 ∷ 30 ∷ 29 ∷ 28 ∷ 27 ∷ 26 ∷ 25 ∷ 24 ∷ 18 ∷ 11 ∷ 10 ∷ 9 ∷ 8 ∷ 7 ∷ 6 ∷ 0 ∷ [];
    enabled = 2 ∷ 2 ∷ 2 ∷ 2 ∷ 2 ∷ 2 ∷ 2 ∷ 2 ∷ 2 ∷ 2 ∷ 2 ∷ 1 ∷ 1 ∷ 2 ∷ 1 ∷ 1 ∷ 1 ∷ 1 ∷ 1 ∷ 1 ∷ 1 ∷ 1 ∷ 1 ∷ 1 ∷ 1 ∷ 1
        ∷ 1 ∷ 2 ∷ 1 ∷ 1 ∷ 1 ∷ 1 ∷ 1 ∷ 1 ∷ 1 ∷ 1 ∷ 1 ∷ 1 ∷ 1 ∷ 1 ∷ 1 ∷ 1 ∷ 1 ∷ 1 ∷ 2 ∷ 1 ∷ 1 ∷ 1 ∷ 1 ∷ 1 ∷ 1 ∷ 1 ∷ 1
        ∷ 1 ∷ 2 ∷ 1 ∷ 1 ∷ 1 ∷ 1 ∷ 1 ∷ 1 ∷ 1 ∷ 3 ∷ 3 ∷ 3 ∷ 1 ∷ 1 ∷ 1 ∷ 1 ∷ 1 ∷ 1 ∷ 2 ∷ 1 ∷ 0 ∷ [];
    finished = 73 ∷ [];
    miscounted = [];
    servers = (item key_a 2 body_y ∷ []) ∷ [];
  };
}
