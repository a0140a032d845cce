-- The words of a text and what they spell.
use Rattle.std.specs.Prelude.{ℕ, List, [], ◌∷◌, length, take, drop, Option, Some, None, bytes_eq, if◌then◌else◌, codes}
use Rattle.far_text.specs.Numbers.{number_of}
use Rattle.far_text.specs.Options.{◌>>=◌}
use Rattle.far_text.specs.Pieces.{cut_at}
use Rattle.far_text.specs.Words.{key_of, body_bytes_of}
use Rattle.workload.specs.declared.words.Verb.{Verb}
use Rattle.workload.specs.declared.words.Verb.TheVariants.{Get, Put, Del, Admit, Evict, Snap, Stop, Picks, Random}

-- the numbers that the words spell
abbrev pub numbers_of : List (List ℕ) → Option (List ℕ)
numbers_of [] = Some []
numbers_of (word ∷ words) = number_of word >>= λ n. numbers_of words >>= λ ns. Some (n ∷ ns)

-- the text goes on behind the name
abbrev pub behind : List ℕ → List ℕ → Option (List ℕ)
behind name text = if bytes_eq (take (length name) text) name then Some (drop (length name) text) else None

-- the number behind the name
abbrev pub named : List ℕ → List ℕ → Option ℕ
named name text = behind name text >>= number_of

abbrev pub verb_of : List ℕ → Option Verb
verb_of word = if bytes_eq word (codes "get") then Some Get
    else if bytes_eq word (codes "put") then Some Put
    else if bytes_eq word (codes "del") then Some Del
    else if bytes_eq word (codes "admit") then Some Admit
    else if bytes_eq word (codes "evict") then Some Evict
    else if bytes_eq word (codes "snap") then Some Snap
    else if bytes_eq word (codes "stop") then Some Stop
    else if bytes_eq word (codes "picks") then Some Picks
    else if bytes_eq word (codes "random") then Some Random
    else None

-- ---- several words

-- a number and a key
abbrev pub number_and_key : List ℕ → Option (ℕ × List ℕ)
number_and_key words = cut_at 32 words >>= λ c. number_of c.0 >>= λ n. key_of c.1 >>= λ k. Some (n, k)

-- a number, a key and a body
abbrev pub put_words : List ℕ → Option (ℕ × List ℕ × List ℕ)
put_words words = cut_at 32 words >>= λ c.
    number_of c.0 >>= λ n.
    cut_at 32 c.1 >>= λ d.
    key_of d.0 >>= λ k.
    body_bytes_of d.1 >>= λ text.
    Some (n, k, text)
