-- Worked runs without slots.
use Rattle.std.specs.Prelude.{[], ◌∷◌, None}
use Rattle.model_examples.specs.Example.{Example}
use Rattle.model_examples.specs.Words.{key_a, body_x, body_y, sizes, get, put, by_server, item}

-- nothing is to be done
abbrev pub nothing_to_do : Example
nothing_to_do = record {
  plan = record {
    config = sizes 1 1 1 0;
    ops = [];
    orders = [];
  };
  picks = [];
  table = record {
    steps = 0;
    history = [];
    control = [];
    map = [];
  };
  course = record {
    bound = 128;
    left = 0 ∷ [];
    enabled = 0 ∷ [];
    finished = 0 ∷ [];
    miscounted = [];
    servers = [] ∷ [];
  };
}

-- a put and a get of one key
abbrev pub put_and_get : Example
put_and_get = record {
  plan = record {
    config = sizes 1 1 1 0;
    ops =
        put 0 key_a body_x
        ∷ get 0 key_a
        ∷ [];
    orders = [];
  };
  picks = [];
  table = record {
    steps = 10;
    history =
        by_server 1 1 body_x 1 5
        ∷ by_server 2 1 body_x 6 10
        ∷ [];
    control = [];
    map = item key_a 1 body_x ∷ [];
  };
  course = record {
    bound = 192;
    left = 48 ∷ 47 ∷ 27 ∷ 26 ∷ 25 ∷ 24 ∷ 23 ∷ 3 ∷ 2 ∷ 1 ∷ 0 ∷ [];
    enabled = 1 ∷ 1 ∷ 1 ∷ 1 ∷ 1 ∷ 1 ∷ 1 ∷ 1 ∷ 1 ∷ 1 ∷ 0 ∷ [];
    finished = 10 ∷ [];
    miscounted = [];
    servers = (item key_a 1 body_x ∷ []) ∷ [];
  };
}

-- a read of a key that was never written
abbrev pub never_written : Example
never_written = record {
  plan = record {
    config = sizes 1 1 1 0;
    ops = get 0 key_a ∷ [];
    orders = [];
  };
  picks = [];
  table = record {
    steps = 5;
    history = by_server 1 0 None 1 5 ∷ [];
    control = [];
    map = [];
  };
  course = record {
    bound = 160;
    left = 24 ∷ 23 ∷ 3 ∷ 2 ∷ 1 ∷ 0 ∷ [];
    enabled = 1 ∷ 1 ∷ 1 ∷ 1 ∷ 1 ∷ 0 ∷ [];
    finished = 5 ∷ [];
    miscounted = [];
    servers = [] ∷ [];
  };
}

-- the second put reaches the server first
abbrev pub writes_overtake : Example
writes_overtake = record {
  plan = record {
    config = sizes 2 1 1 0;
    ops =
        put 0 key_a body_x
        ∷ put 1 key_a body_y
        ∷ [];
    orders = [];
  };
  picks = 0 ∷ 0 ∷ 0 ∷ 0 ∷ 1 ∷ 1 ∷ 1 ∷ [];
  table = record {
    steps = 10;
    history =
        by_server 1 1 body_x 1 10
        ∷ by_server 2 2 body_y 2 7
        ∷ [];
    control = [];
    map = item key_a 2 body_y ∷ [];
  };
  course = record {
    bound = 224;
    left = 48 ∷ 47 ∷ 46 ∷ 26 ∷ 6 ∷ 5 ∷ 4 ∷ 3 ∷ 2 ∷ 1 ∷ 0 ∷ [];
    enabled = 2 ∷ 2 ∷ 2 ∷ 2 ∷ 2 ∷ 2 ∷ 2 ∷ 1 ∷ 1 ∷ 1 ∷ 0 ∷ [];
    finished = 10 ∷ [];
    miscounted = [];
    servers = (item key_a 2 body_y ∷ []) ∷ [];
  };
}
