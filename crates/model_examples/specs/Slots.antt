-- Worked runs in which keys are admitted to slots.
use Rattle.std.specs.Prelude.{[], ◌∷◌, None}
use Rattle.far_base.specs.declared.log.LogEntry.TheVariants.{Admitted, Evicted, SnapItem, Snapped}
use Rattle.far_base.specs.declared.plan.Order.TheVariants.{Admit as admit, Evict as evict, Snap as snap}
use Rattle.model_examples.specs.Example.{Example}
use Rattle.model_examples.specs.Words.{
  key_a,
  key_b,
  key_c,
  key_d,
  key_e,
  key_f,
  key_qx,
  body_p,
  body_q,
  body_v,
  body_w,
  body_x,
  body_y,
  body_z,
  sizes,
  get,
  put,
  by_server,
  by_switch,
  at,
  item,
}

-- a tagged read makes the slot latest with the old value, and the reply of the put raises it
abbrev pub reply_raises_latest : Example
reply_raises_latest = record {
  plan = record {
    config = sizes 2 1 1 0;
    ops =
        put 0 key_a body_x
        ∷ get 1 key_a
        ∷ get 0 key_a
        ∷ [];
    orders = admit 2 key_a ∷ [];
  };
  picks = 0 ∷ 1 ∷ 2 ∷ 2 ∷ 0 ∷ 2 ∷ 2 ∷ 2 ∷ 0 ∷ 2 ∷ 2 ∷ 0 ∷ 2 ∷ [];
  table = record {
    steps = 17;
    history =
        by_server 2 0 None 6 16
        ∷ by_server 1 1 body_x 1 12
        ∷ by_switch 3 1 body_x 13 17
        ∷ [];
    control = at 15 (Admitted 0 key_a 1) ∷ [];
    map = item key_a 1 body_x ∷ [];
  };
  course = record {
    bound = 288;
    left = 91 ∷ 90 ∷ 70 ∷ 54 ∷ 53 ∷ 52 ∷ 51 ∷ 31 ∷ 30 ∷ 29 ∷ 28 ∷ 27 ∷ 26 ∷ 25 ∷ 3 ∷ 2 ∷ 1 ∷ 0 ∷ [];
    enabled = 2 ∷ 2 ∷ 3 ∷ 3 ∷ 3 ∷ 3 ∷ 3 ∷ 3 ∷ 3 ∷ 3 ∷ 3 ∷ 3 ∷ 3 ∷ 3 ∷ 3 ∷ 2 ∷ 1 ∷ 0 ∷ [];
    finished = 17 ∷ [];
    miscounted = [];
    servers = (item key_a 1 body_x ∷ []) ∷ [];
  };
}

-- the reply of the put passes an outdated slot, and the older tagged reply does not make it latest
abbrev pub reply_raises_outdated : Example
reply_raises_outdated = record {
  plan = record {
    config = sizes 2 1 1 0;
    ops =
        put 0 key_a body_x
        ∷ get 1 key_a
        ∷ get 0 key_a
        ∷ [];
    orders = admit 2 key_a ∷ [];
  };
  picks = 0 ∷ 1 ∷ 2 ∷ 2 ∷ 0 ∷ 2 ∷ 2 ∷ 0 ∷ 2 ∷ 2 ∷ 2 ∷ 0 ∷ 2 ∷ [];
  table = record {
    steps = 19;
    history =
        by_server 2 0 None 6 16
        ∷ by_server 1 1 body_x 1 11
        ∷ by_server 3 1 body_x 13 19
        ∷ [];
    control = at 15 (Admitted 0 key_a 1) ∷ [];
    map = item key_a 1 body_x ∷ [];
  };
  course = record {
    bound = 288;
    left = 91 ∷ 90 ∷ 70 ∷ 54 ∷ 53 ∷ 52 ∷ 51 ∷ 31 ∷ 30 ∷ 29 ∷ 28 ∷ 27 ∷ 26 ∷ 25 ∷ 5 ∷ 4 ∷ 3 ∷ 2 ∷ 1 ∷ 0 ∷ [];
    enabled = 2 ∷ 2 ∷ 3 ∷ 3 ∷ 3 ∷ 3 ∷ 3 ∷ 3 ∷ 3 ∷ 3 ∷ 3 ∷ 3 ∷ 3 ∷ 3 ∷ 3 ∷ 2 ∷ 1 ∷ 1 ∷ 1 ∷ 0 ∷ [];
    finished = 19 ∷ [];
    miscounted = [];
    servers = (item key_a 1 body_x ∷ []) ∷ [];
  };
}

-- a reply under the first tag comes back after eviction and a second admission
abbrev pub old_tag_returns : Example
old_tag_returns = record {
  plan = record {
    config = sizes 2 1 1 0;
    ops =
        get 1 key_a
        ∷ put 0 key_a body_x
        ∷ get 0 key_a
        ∷ [];
    orders =
        admit 0 key_a
        ∷ evict 7 key_a
        ∷ admit 17 key_a
        ∷ [];
  };
  picks = 2 ∷ 2 ∷ 2 ∷ 1 ∷ 1 ∷ 1 ∷ 2 ∷ 2 ∷ 2 ∷ 2 ∷ 0 ∷ 1 ∷ 1 ∷ 1 ∷ 1 ∷ 2 ∷ 2 ∷ 1 ∷ [];
  table = record {
    steps = 28;
    history =
        by_server 1 0 None 5 24
        ∷ by_server 2 1 body_x 13 17
        ∷ by_server 3 1 body_x 22 28
        ∷ [];
    control =
        at 4 (Admitted 0 key_a 1)
        ∷ at 12 (Evicted 0 key_a 1)
        ∷ at 23 (Admitted 0 key_a 2)
        ∷ [];
    map = item key_a 1 body_x ∷ [];
  };
  course = record {
    bound = 352;
    left = 125 ∷ 109 ∷ 108 ∷ 107 ∷ 106 ∷ 105 ∷ 85 ∷ 84 ∷ 83 ∷ 82 ∷ 79 ∷ 78 ∷ 69 ∷ 68 ∷ 48 ∷ 47 ∷ 46 ∷ 45 ∷ 29 ∷ 28
        ∷ 27 ∷ 26 ∷ 25 ∷ 24 ∷ 23 ∷ 3 ∷ 2 ∷ 1 ∷ 0 ∷ [];
    enabled = 3 ∷ 3 ∷ 3 ∷ 3 ∷ 2 ∷ 2 ∷ 2 ∷ 3 ∷ 3 ∷ 3 ∷ 3 ∷ 3 ∷ 2 ∷ 2 ∷ 2 ∷ 2 ∷ 2 ∷ 3 ∷ 3 ∷ 3 ∷ 3 ∷ 3 ∷ 3 ∷ 2 ∷ 1 ∷ 1
        ∷ 1 ∷ 1 ∷ 0 ∷ [];
    finished = 28 ∷ [];
    miscounted = [];
    servers = (item key_a 1 body_x ∷ []) ∷ [];
  };
}

-- a key grows hot, and its absence is cached
abbrev pub absence_is_cached : Example
absence_is_cached = record {
  plan = record {
    config = sizes 1 1 1 2;
    ops =
        get 0 key_a
        ∷ get 0 key_a
        ∷ get 0 key_a
        ∷ get 0 key_a
        ∷ [];
    orders = [];
  };
  picks = 0 ∷ 0 ∷ 0 ∷ 0 ∷ 0 ∷ 0 ∷ 0 ∷ 0 ∷ 0 ∷ 0 ∷ 0 ∷ 1 ∷ 1 ∷ 1 ∷ [];
  table = record {
    steps = 22;
    history =
        by_server 1 0 None 1 5
        ∷ by_server 2 0 None 6 11
        ∷ by_server 3 0 None 15 19
        ∷ by_switch 4 0 None 20 22
        ∷ [];
    control = at 14 (Admitted 0 key_a 1) ∷ [];
    map = [];
  };
  course = record {
    bound = 256;
    left = 96 ∷ 95 ∷ 75 ∷ 74 ∷ 73 ∷ 72 ∷ 71 ∷ 70 ∷ 69 ∷ 53 ∷ 52 ∷ 51 ∷ 50 ∷ 49 ∷ 48 ∷ 47 ∷ 27 ∷ 26 ∷ 25 ∷ 24 ∷ 23
        ∷ 1 ∷ 0 ∷ [];
    enabled = 1 ∷ 1 ∷ 1 ∷ 1 ∷ 1 ∷ 1 ∷ 1 ∷ 2 ∷ 2 ∷ 2 ∷ 2 ∷ 2 ∷ 2 ∷ 2 ∷ 1 ∷ 1 ∷ 1 ∷ 1 ∷ 1 ∷ 1 ∷ 1 ∷ 1 ∷ 0 ∷ [];
    finished = 22 ∷ [];
    miscounted = [];
    servers = [] ∷ [];
  };
}

-- keys of the same and of different cells grow hot, and a snapshot begins the counts anew
abbrev pub keys_grow_hot : Example
keys_grow_hot = record {
  plan = record {
    config = sizes 1 2 2 3;
    ops =
        get 0 key_a
        ∷ get 0 key_qx
        ∷ get 0 key_b
        ∷ get 0 key_b
        ∷ get 0 key_qx
        ∷ get 0 key_a
        ∷ put 0 key_b body_y
        ∷ get 0 key_b
        ∷ put 0 key_a body_z
        ∷ get 0 key_qx
        ∷ get 0 key_a
        ∷ get 0 key_a
        ∷ get 0 key_qx
        ∷ get 0 key_qx
        ∷ [];
    orders = snap 42 ∷ [];
  };
  picks = [];
  table = record {
    steps = 104;
    history =
        by_server 1 0 None 1 5
        ∷ by_server 2 0 None 6 10
        ∷ by_server 3 0 None 11 15
        ∷ by_server 4 0 None 16 20
        ∷ by_server 5 0 None 21 26
        ∷ by_server 6 0 None 27 31
        ∷ by_server 7 1 body_y 32 37
        ∷ by_server 8 1 body_y 38 42
        ∷ by_server 9 2 body_z 44 54
        ∷ by_server 10 0 None 55 60
        ∷ by_server 11 2 body_z 61 66
        ∷ by_server 12 2 body_z 67 71
        ∷ by_server 13 0 None 72 76
        ∷ by_server 14 0 None 77 82
        ∷ [];
    control =
        at 53 (Snapped 1 1 0 0)
        ∷ at 85 (Admitted 0 key_qx 1)
        ∷ at 88 (Admitted 1 key_b 2)
        ∷ at 93 (Evicted 0 key_qx 1)
        ∷ at 96 (Admitted 0 key_a 3)
        ∷ at 101 (Evicted 1 key_b 1)
        ∷ at 104 (Admitted 1 key_qx 4)
        ∷ [];
    map =
        item key_a 2 body_z
        ∷ item key_b 1 body_y
        ∷ [];
  };
  course = record {
    bound = 1280;
    left = 344 ∷ 343 ∷ 323 ∷ 322 ∷ 321 ∷ 320 ∷ 319 ∷ 299 ∷ 298 ∷ 297 ∷ 296 ∷ 295 ∷ 275 ∷ 274 ∷ 273 ∷ 272 ∷ 271 ∷ 251
        ∷ 250 ∷ 249 ∷ 248 ∷ 247 ∷ 246 ∷ 245 ∷ 229 ∷ 228 ∷ 227 ∷ 226 ∷ 206 ∷ 205 ∷ 204 ∷ 203 ∷ 202 ∷ 201 ∷ 200 ∷ 184
        ∷ 183 ∷ 182 ∷ 181 ∷ 161 ∷ 160 ∷ 159 ∷ 158 ∷ 157 ∷ 156 ∷ 155 ∷ 135 ∷ 134 ∷ 133 ∷ 132 ∷ 131 ∷ 130 ∷ 129 ∷ 128
        ∷ 127 ∷ 126 ∷ 125 ∷ 105 ∷ 104 ∷ 103 ∷ 102 ∷ 101 ∷ 100 ∷ 99 ∷ 98 ∷ 97 ∷ 96 ∷ 95 ∷ 75 ∷ 74 ∷ 73 ∷ 72 ∷ 71 ∷ 51
        ∷ 50 ∷ 49 ∷ 48 ∷ 47 ∷ 46 ∷ 45 ∷ 44 ∷ 43 ∷ 42 ∷ 41 ∷ 40 ∷ 39 ∷ 38 ∷ 37 ∷ 36 ∷ 35 ∷ 34 ∷ 31 ∷ 30 ∷ 21 ∷ 20 ∷ 19
        ∷ 18 ∷ 17 ∷ 16 ∷ 13 ∷ 12 ∷ 3 ∷ 2 ∷ 1 ∷ 0 ∷ [];
    enabled = 1 ∷ 1 ∷ 1 ∷ 1 ∷ 1 ∷ 1 ∷ 1 ∷ 1 ∷ 1 ∷ 1 ∷ 1 ∷ 1 ∷ 1 ∷ 1 ∷ 1 ∷ 1 ∷ 1 ∷ 1 ∷ 1 ∷ 1 ∷ 1 ∷ 1 ∷ 2 ∷ 2 ∷ 2 ∷ 2
        ∷ 2 ∷ 2 ∷ 2 ∷ 2 ∷ 2 ∷ 2 ∷ 2 ∷ 3 ∷ 3 ∷ 2 ∷ 2 ∷ 2 ∷ 2 ∷ 2 ∷ 2 ∷ 2 ∷ 3 ∷ 3 ∷ 3 ∷ 3 ∷ 3 ∷ 4 ∷ 4 ∷ 4 ∷ 4 ∷ 4 ∷ 3
        ∷ 3 ∷ 3 ∷ 3 ∷ 2 ∷ 2 ∷ 2 ∷ 2 ∷ 2 ∷ 2 ∷ 3 ∷ 3 ∷ 2 ∷ 2 ∷ 2 ∷ 2 ∷ 2 ∷ 2 ∷ 2 ∷ 2 ∷ 2 ∷ 2 ∷ 2 ∷ 2 ∷ 2 ∷ 2 ∷ 3 ∷ 3
        ∷ 2 ∷ 2 ∷ 1 ∷ 2 ∷ 2 ∷ 1 ∷ 2 ∷ 2 ∷ 1 ∷ 1 ∷ 1 ∷ 1 ∷ 1 ∷ 1 ∷ 2 ∷ 2 ∷ 1 ∷ 1 ∷ 1 ∷ 1 ∷ 1 ∷ 1 ∷ 1 ∷ 1 ∷ 0 ∷ [];
    finished = 104 ∷ [];
    miscounted = [];
    servers = (item key_b 1 body_y ∷ []) ∷ (item key_a 2 body_z ∷ []) ∷ [];
  };
}

-- keys that were evicted come back to other slots, and outdated slots make room
abbrev pub key_moves_to_another_slot : Example
key_moves_to_another_slot = record {
  plan = record {
    config = sizes 2 2 2 0;
    ops =
        put 0 key_a body_p
        ∷ put 0 key_b body_q
        ∷ get 1 key_a
        ∷ get 1 key_a
        ∷ get 1 key_a
        ∷ get 0 key_c
        ∷ get 1 key_e
        ∷ [];
    orders =
        admit 0 key_a
        ∷ admit 1 key_b
        ∷ evict 3 key_a
        ∷ evict 15 key_a
        ∷ evict 22 key_b
        ∷ admit 29 key_c
        ∷ admit 31 key_a
        ∷ admit 48 key_d
        ∷ admit 55 key_e
        ∷ admit 66 key_b
        ∷ admit 75 key_f
        ∷ [];
  };
  picks = 2 ∷ 2 ∷ 2 ∷ 2 ∷ 2 ∷ 2 ∷ 0 ∷ 1 ∷ 1 ∷ 0 ∷ 1 ∷ 1 ∷ 2 ∷ 2 ∷ 2 ∷ 2 ∷ 2 ∷ 2 ∷ 2 ∷ 2 ∷ 2 ∷ 2 ∷ 2 ∷ 2 ∷ 2 ∷ 3 ∷ 3
      ∷ 3 ∷ 1 ∷ 2 ∷ 2 ∷ 2 ∷ 2 ∷ 1 ∷ 2 ∷ 2 ∷ 2 ∷ 2 ∷ 1 ∷ 1 ∷ 1 ∷ 2 ∷ 2 ∷ 2 ∷ 2 ∷ 2 ∷ 2 ∷ 3 ∷ 3 ∷ 3 ∷ 3 ∷ 3 ∷ 3 ∷ 3 ∷ 3
      ∷ 2 ∷ 3 ∷ 3 ∷ 3 ∷ 3 ∷ 3 ∷ 3 ∷ 3 ∷ 3 ∷ 3 ∷ 3 ∷ [];
  table = record {
    steps = 96;
    history =
        by_switch 1 1 body_p 10 12
        ∷ by_switch 2 2 body_q 13 15
        ∷ by_server 3 1 body_p 36 40
        ∷ by_switch 4 1 body_p 41 43
        ∷ by_switch 5 1 body_p 46 48
        ∷ by_server 6 0 None 78 92
        ∷ by_server 7 0 None 79 93
        ∷ [];
    control =
        at 6 (Admitted 0 key_a 1)
        ∷ at 9 (Admitted 1 key_b 2)
        ∷ at 22 (Evicted 0 key_a 1)
        ∷ at 29 (Evicted 1 key_b 1)
        ∷ at 35 (Admitted 1 key_a 4)
        ∷ at 45 (Admitted 0 key_c 3)
        ∷ at 54 (Evicted 0 key_c 1)
        ∷ at 63 (Evicted 1 key_a 1)
        ∷ at 66 (Admitted 0 key_d 5)
        ∷ at 72 (Evicted 0 key_d 1)
        ∷ at 75 (Admitted 0 key_b 7)
        ∷ at 84 (Admitted 1 key_e 6)
        ∷ at 91 (Evicted 0 key_b 1)
        ∷ at 96 (Admitted 0 key_f 8)
        ∷ [];
    map =
        item key_a 1 body_p
        ∷ item key_b 2 body_q
        ∷ [];
  };
  course = record {
    bound = 800;
    left = 365 ∷ 349 ∷ 333 ∷ 332 ∷ 317 ∷ 316 ∷ 315 ∷ 314 ∷ 313 ∷ 312 ∷ 311 ∷ 289 ∷ 288 ∷ 287 ∷ 265 ∷ 264 ∷ 263 ∷ 262
        ∷ 261 ∷ 260 ∷ 259 ∷ 258 ∷ 249 ∷ 248 ∷ 247 ∷ 246 ∷ 245 ∷ 244 ∷ 243 ∷ 234 ∷ 218 ∷ 217 ∷ 201 ∷ 200 ∷ 199 ∷ 198
        ∷ 197 ∷ 177 ∷ 176 ∷ 175 ∷ 174 ∷ 173 ∷ 151 ∷ 150 ∷ 149 ∷ 148 ∷ 147 ∷ 125 ∷ 124 ∷ 123 ∷ 122 ∷ 121 ∷ 118 ∷ 117
        ∷ 108 ∷ 107 ∷ 106 ∷ 105 ∷ 104 ∷ 103 ∷ 102 ∷ 101 ∷ 100 ∷ 91 ∷ 90 ∷ 89 ∷ 88 ∷ 87 ∷ 86 ∷ 85 ∷ 82 ∷ 81 ∷ 72 ∷ 71
        ∷ 70 ∷ 69 ∷ 68 ∷ 67 ∷ 66 ∷ 65 ∷ 64 ∷ 63 ∷ 43 ∷ 23 ∷ 22 ∷ 19 ∷ 18 ∷ 17 ∷ 16 ∷ 15 ∷ 14 ∷ 5 ∷ 4 ∷ 3 ∷ 2 ∷ 1 ∷ 0
        ∷ [];
    enabled = 3 ∷ 4 ∷ 3 ∷ 5 ∷ 4 ∷ 4 ∷ 3 ∷ 3 ∷ 3 ∷ 2 ∷ 2 ∷ 2 ∷ 2 ∷ 2 ∷ 2 ∷ 3 ∷ 3 ∷ 3 ∷ 3 ∷ 3 ∷ 3 ∷ 3 ∷ 3 ∷ 3 ∷ 3 ∷ 3
        ∷ 3 ∷ 3 ∷ 3 ∷ 3 ∷ 3 ∷ 4 ∷ 4 ∷ 4 ∷ 4 ∷ 3 ∷ 3 ∷ 3 ∷ 3 ∷ 3 ∷ 3 ∷ 3 ∷ 3 ∷ 3 ∷ 3 ∷ 2 ∷ 2 ∷ 2 ∷ 3 ∷ 3 ∷ 3 ∷ 3 ∷ 3
        ∷ 3 ∷ 3 ∷ 4 ∷ 4 ∷ 4 ∷ 4 ∷ 4 ∷ 4 ∷ 4 ∷ 4 ∷ 4 ∷ 4 ∷ 4 ∷ 4 ∷ 4 ∷ 4 ∷ 4 ∷ 4 ∷ 4 ∷ 4 ∷ 4 ∷ 4 ∷ 4 ∷ 4 ∷ 4 ∷ 4 ∷ 4
        ∷ 4 ∷ 4 ∷ 4 ∷ 4 ∷ 3 ∷ 3 ∷ 3 ∷ 3 ∷ 3 ∷ 3 ∷ 3 ∷ 3 ∷ 2 ∷ 1 ∷ 1 ∷ 1 ∷ 0 ∷ [];
    finished = 96 ∷ [];
    miscounted = [];
    servers = (item key_b 2 body_q ∷ []) ∷ (item key_a 1 body_p ∷ []) ∷ [];
  };
}

-- replies of reads and writes, late and early, come to latest and to outdated slots
abbrev pub replies_meet_slots : Example
replies_meet_slots = record {
  plan = record {
    config = sizes 4 1 2 0;
    ops =
        put 0 key_a body_x
        ∷ put 1 key_b body_y
        ∷ get 2 key_a
        ∷ get 2 key_b
        ∷ put 0 key_a body_z
        ∷ put 1 key_a body_w
        ∷ get 2 key_a
        ∷ get 2 key_b
        ∷ put 0 key_b body_v
        ∷ get 1 key_a
        ∷ get 2 key_a
        ∷ put 0 key_d body_x
        ∷ get 1 key_d
        ∷ get 3 key_d
        ∷ put 0 key_d body_y
        ∷ get 2 key_d
        ∷ get 2 key_d
        ∷ get 3 key_d
        ∷ put 0 key_c body_x
        ∷ put 1 key_c body_y
        ∷ get 2 key_c
        ∷ get 2 key_c
        ∷ get 2 key_c
        ∷ get 1 key_d
        ∷ [];
    orders =
        admit 68 key_d
        ∷ admit 96 key_c
        ∷ snap 112
        ∷ [];
  };
  picks = 0 ∷ 3 ∷ 0 ∷ 3 ∷ 3 ∷ 3 ∷ 0 ∷ 2 ∷ 3 ∷ 3 ∷ 3 ∷ 3 ∷ 1 ∷ 3 ∷ 3 ∷ 3 ∷ 3 ∷ 3 ∷ 3 ∷ 3 ∷ 0 ∷ 3 ∷ 0 ∷ 3 ∷ 3 ∷ 2 ∷ 0
      ∷ 3 ∷ 3 ∷ 3 ∷ 2 ∷ 3 ∷ 3 ∷ 3 ∷ 3 ∷ 0 ∷ 3 ∷ 3 ∷ 1 ∷ 3 ∷ 3 ∷ 3 ∷ 2 ∷ 0 ∷ 1 ∷ 2 ∷ 3 ∷ 3 ∷ 3 ∷ 3 ∷ 2 ∷ 3 ∷ 3 ∷ 3 ∷ 3
      ∷ 0 ∷ 3 ∷ 3 ∷ 3 ∷ 3 ∷ 1 ∷ 3 ∷ 3 ∷ 2 ∷ 3 ∷ 3 ∷ 0 ∷ 3 ∷ 4 ∷ 4 ∷ 4 ∷ 2 ∷ 3 ∷ 0 ∷ 3 ∷ 3 ∷ 2 ∷ 3 ∷ 3 ∷ 2 ∷ 3 ∷ 3 ∷ 3
      ∷ 2 ∷ 3 ∷ 3 ∷ 3 ∷ 3 ∷ 3 ∷ 3 ∷ 3 ∷ 0 ∷ 2 ∷ 0 ∷ 2 ∷ 3 ∷ 3 ∷ 3 ∷ 0 ∷ 2 ∷ 2 ∷ 2 ∷ 2 ∷ 2 ∷ 1 ∷ 2 ∷ 2 ∷ 0 ∷ 1 ∷ 1 ∷ 2
      ∷ 1 ∷ 2 ∷ 2 ∷ 1 ∷ 3 ∷ 3 ∷ 1 ∷ 1 ∷ 1 ∷ 1 ∷ 1 ∷ 1 ∷ 1 ∷ 1 ∷ [];
  table = record {
    steps = 131;
    history =
        by_server 2 2 body_y 3 8
        ∷ by_server 3 0 None 7 12
        ∷ by_server 4 2 body_y 13 17
        ∷ by_server 1 1 body_x 1 20
        ∷ by_server 5 3 body_z 21 32
        ∷ by_server 6 4 body_w 23 35
        ∷ by_server 7 4 body_w 27 33
        ∷ by_server 9 5 body_v 36 46
        ∷ by_server 8 5 body_v 39 45
        ∷ by_server 10 4 body_w 44 50
        ∷ by_server 11 4 body_w 51 55
        ∷ by_server 12 6 body_x 56 60
        ∷ by_server 13 6 body_x 61 82
        ∷ by_server 14 6 body_x 64 74
        ∷ by_server 16 6 body_x 75 84
        ∷ by_server 15 7 body_y 67 80
        ∷ by_server 17 7 body_y 85 89
        ∷ by_switch 18 7 body_y 90 92
        ∷ by_server 21 0 None 101 105
        ∷ by_server 19 8 body_x 93 109
        ∷ by_server 20 9 body_y 95 116
        ∷ by_switch 22 9 body_y 110 112
        ∷ by_switch 23 9 body_y 118 120
        ∷ by_switch 24 7 body_y 129 131
        ∷ [];
    control =
        at 72 (Admitted 0 key_d 1)
        ∷ at 100 (Admitted 1 key_c 2)
        ∷ at 124 (Snapped 1 9 2 0)
        ∷ at 124 (SnapItem 0 (item key_d 7 body_y))
        ∷ at 124 (SnapItem 1 (item key_c 9 body_y))
        ∷ [];
    map =
        item key_a 4 body_w
        ∷ item key_b 5 body_v
        ∷ item key_c 9 body_y
        ∷ item key_d 7 body_y
        ∷ [];
  };
  course = record {
    bound = 2176;
    left = 625 ∷ 624 ∷ 604 ∷ 603 ∷ 583 ∷ 582 ∷ 581 ∷ 580 ∷ 579 ∷ 559 ∷ 558 ∷ 557 ∷ 556 ∷ 555 ∷ 535 ∷ 534 ∷ 533 ∷ 532
        ∷ 531 ∷ 530 ∷ 529 ∷ 528 ∷ 508 ∷ 507 ∷ 487 ∷ 486 ∷ 485 ∷ 484 ∷ 464 ∷ 463 ∷ 462 ∷ 461 ∷ 460 ∷ 459 ∷ 458 ∷ 457
        ∷ 456 ∷ 436 ∷ 435 ∷ 434 ∷ 414 ∷ 413 ∷ 412 ∷ 411 ∷ 410 ∷ 409 ∷ 408 ∷ 388 ∷ 387 ∷ 386 ∷ 385 ∷ 384 ∷ 364 ∷ 363
        ∷ 362 ∷ 361 ∷ 360 ∷ 340 ∷ 339 ∷ 338 ∷ 337 ∷ 336 ∷ 316 ∷ 315 ∷ 314 ∷ 294 ∷ 293 ∷ 292 ∷ 272 ∷ 256 ∷ 255 ∷ 254
        ∷ 253 ∷ 252 ∷ 251 ∷ 250 ∷ 230 ∷ 229 ∷ 228 ∷ 227 ∷ 226 ∷ 225 ∷ 224 ∷ 223 ∷ 222 ∷ 221 ∷ 201 ∷ 200 ∷ 199 ∷ 198
        ∷ 197 ∷ 175 ∷ 174 ∷ 173 ∷ 153 ∷ 152 ∷ 132 ∷ 116 ∷ 115 ∷ 114 ∷ 113 ∷ 112 ∷ 92 ∷ 91 ∷ 90 ∷ 89 ∷ 88 ∷ 87 ∷ 86
        ∷ 85 ∷ 84 ∷ 62 ∷ 61 ∷ 60 ∷ 59 ∷ 58 ∷ 57 ∷ 56 ∷ 55 ∷ 33 ∷ 32 ∷ 31 ∷ 30 ∷ 29 ∷ 28 ∷ 27 ∷ 26 ∷ 25 ∷ 24 ∷ 23 ∷ 1
        ∷ 0 ∷ [];
    enabled = 4 ∷ 4 ∷ 4 ∷ 4 ∷ 4 ∷ 4 ∷ 4 ∷ 4 ∷ 4 ∷ 4 ∷ 4 ∷ 4 ∷ 4 ∷ 4 ∷ 4 ∷ 4 ∷ 4 ∷ 4 ∷ 4 ∷ 4 ∷ 4 ∷ 4 ∷ 4 ∷ 4 ∷ 4 ∷ 4
        ∷ 4 ∷ 4 ∷ 4 ∷ 4 ∷ 4 ∷ 4 ∷ 4 ∷ 4 ∷ 4 ∷ 4 ∷ 4 ∷ 4 ∷ 4 ∷ 4 ∷ 4 ∷ 4 ∷ 4 ∷ 4 ∷ 4 ∷ 4 ∷ 4 ∷ 4 ∷ 4 ∷ 4 ∷ 4 ∷ 4 ∷ 4
        ∷ 4 ∷ 4 ∷ 4 ∷ 4 ∷ 4 ∷ 4 ∷ 4 ∷ 4 ∷ 4 ∷ 4 ∷ 4 ∷ 4 ∷ 4 ∷ 4 ∷ 4 ∷ 5 ∷ 5 ∷ 5 ∷ 5 ∷ 4 ∷ 4 ∷ 4 ∷ 4 ∷ 4 ∷ 4 ∷ 4 ∷ 4
        ∷ 4 ∷ 4 ∷ 4 ∷ 4 ∷ 4 ∷ 4 ∷ 4 ∷ 4 ∷ 4 ∷ 4 ∷ 4 ∷ 4 ∷ 3 ∷ 3 ∷ 3 ∷ 3 ∷ 4 ∷ 4 ∷ 4 ∷ 4 ∷ 3 ∷ 3 ∷ 3 ∷ 3 ∷ 3 ∷ 3 ∷ 3
        ∷ 3 ∷ 3 ∷ 2 ∷ 2 ∷ 2 ∷ 3 ∷ 3 ∷ 3 ∷ 3 ∷ 3 ∷ 4 ∷ 4 ∷ 4 ∷ 3 ∷ 3 ∷ 3 ∷ 2 ∷ 5 ∷ 4 ∷ 3 ∷ 2 ∷ 1 ∷ 1 ∷ 1 ∷ 0 ∷ [];
    finished = 131 ∷ [];
    miscounted = [];
    servers = (item key_b 5 body_v ∷ item key_a 4 body_w ∷ item key_d 7 body_y ∷ item key_c 9 body_y ∷ []) ∷ [];
  };
}
