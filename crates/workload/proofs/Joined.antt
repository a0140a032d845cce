-- Picks are joined one by one, and a fault decides only at the end of the line.
use Rattle.std.proofs.Common.{◌≡◌, ℕ, suc, ◌+◌, ◌<◌, ◌≤◌, Bool, true, false, cond, List, [], ◌∷◌, ◌++◌, length, refl, sym, ap, ◌∙◌, arith, append_assoc}
use Rattle.std.specs.Prelude.{Option, Some, None, Result, Ok, Err, nat_le, nat_lt, if◌then◌else◌}
use Rattle.std.proofs.lemmas.Bool.Decides.{nat_tests}
use Rattle.std.proofs.lemmas.List.{length-append}
use Rattle.far_text.specs.Options.{◌>>=◌}
use Rattle.far_text.specs.Pieces.{pieces, cut_at, Pieces}
use Rattle.far_text.specs.Numbers.{number_of}
use Rattle.far_text.proofs.Cuts.{pieces_cut, some_piece}
use Rattle.workload.specs.Outcome.{◌andthen◌, Gives, Fails}
use Rattle.workload.specs.Words.{numbers_of}
use Rattle.workload.specs.Forms.{OfPicks, step_by, with_picks, form_by}
use Rattle.workload.specs.Joining.{pushed_by, pushed, whole, joined_from}
use Rattle.workload.specs.WorkView.{WorkView}
use Rattle.workload.specs.declared.fault.Limit.TheVariants.{Picks as PickCount}
use Rattle.workload.specs.declared.fault.WorkFault.{WorkFault}
use Rattle.workload.specs.declared.fault.WorkFault.TheVariants.{BadLine, TooLarge, Memory}
use Rattle.workload.specs.declared.load.TheConstants.{PICK_LIMIT}
use Rattle.workload.specs.declared.words.Verb.TheVariants.{Picks}

abbrev counted : ℕ → List ℕ → List ℕ → Result (List ℕ) WorkFault
counted line picks ns = if nat_le (length picks + length ns) PICK_LIMIT then Ok (picks ++ ns) else Err (TooLarge PickCount line)

abbrev all_in : ℕ → Bool → List ℕ → List ℕ → Result (List ℕ) WorkFault
all_in line room picks [] = whole line room picks
all_in line room picks (n ∷ ns) = counted line picks (n ∷ ns)

abbrev by_numbers : ℕ → Bool → List ℕ → Option (List ℕ) → Result (List ℕ) WorkFault
by_numbers line room picks None = Err (BadLine line)
by_numbers line room picks (Some ns) = all_in line room picks ns

with_room : (line : ℕ) (picks : List ℕ) (n : ℕ) (ns : List ℕ) → length picks < PICK_LIMIT → all_in line true (picks ++ n ∷ []) ns ≡ counted line picks (n ∷ ns)
with_room line picks n [] lt =
    let k : nat_le (length picks + 1) PICK_LIMIT ≡ true = grind (arith, nat_tests) in
    rw k refl
with_room line picks n (m ∷ ms) lt =
    let k : length (picks ++ n ∷ []) + suc (length ms) ≡ length picks + suc (suc (length ms)) = omega (arith, length-append picks (n ∷ [])) in
    rw (k, append_assoc picks (n ∷ []) (m ∷ ms)) refl

no_room : (line : ℕ) (picks : List ℕ) (n : ℕ) (ns : List ℕ) → PICK_LIMIT ≤ length picks → all_in line false picks ns ≡ counted line picks (n ∷ ns)
no_room line picks n [] le =
    let k : nat_le (length picks + 1) PICK_LIMIT ≡ false = grind (arith, nat_tests) in
    rw k refl
no_room line picks n (m ∷ ms) le =
    let j : nat_le (length picks + suc (length ms)) PICK_LIMIT ≡ false = grind (arith, nat_tests) in
    let k : nat_le (length picks + suc (suc (length ms))) PICK_LIMIT ≡ false = grind (arith, nat_tests) in
    rw (j, k) refl

abbrev tried : ℕ → List ℕ → ℕ → Bool → Result (Bool × List ℕ) WorkFault
tried line picks n v = cond v (Ok (true, picks ++ n ∷ [])) (Ok (false, picks))

one_number : (line : ℕ) (room : Bool) (picks : List ℕ) (n : ℕ) (read : Option (List ℕ)) → (pushed_by line picks (Some n) andthen λ p. by_numbers line p.0 p.1 read) ≡ by_numbers line room picks (read >>= λ ns. Some (n ∷ ns))
one_number line room picks n None =
    elim (nat_lt (length picks) PICK_LIMIT) as (λ v. (tried line picks n v andthen λ p. by_numbers line p.0 p.1 None) ≡ Err (BadLine line)) [
      | true ↦ refl
      | false ↦ refl
    ]
one_number line room picks n (Some ns) =
    elim (nat_lt (length picks) PICK_LIMIT) as (λ v. nat_lt (length picks) PICK_LIMIT ≡ v → (tried line picks n v andthen λ p. by_numbers line p.0 p.1 (Some ns)) ≡ counted line picks (n ∷ ns)) [
      | true ↦ λ e. let lt : length picks < PICK_LIMIT = grind (arith, nat_tests) in with_room line picks n ns lt
      | false ↦ λ e. let le : PICK_LIMIT ≤ length picks = grind (arith, nat_tests) in no_room line picks n ns le
    ] refl

step_over : (line : ℕ) (picks : List ℕ) (n : ℕ) (words : Pieces) → ((p : Bool × List ℕ) → joined_from line p.0 p.1 words ≡ by_numbers line p.0 p.1 (numbers_of words))
    → (pushed_by line picks (Some n) andthen λ p. joined_from line p.0 p.1 words) ≡ (pushed_by line picks (Some n) andthen λ p. by_numbers line p.0 p.1 (numbers_of words))
step_over line picks n words ih =
    elim (nat_lt (length picks) PICK_LIMIT) as (λ v. (tried line picks n v andthen λ p. joined_from line p.0 p.1 words) ≡ (tried line picks n v andthen λ p. by_numbers line p.0 p.1 (numbers_of words))) [
      | true ↦ ih (true, picks ++ n ∷ [])
      | false ↦ ih (false, picks)
    ]

by_word : (line : ℕ) (room : Bool) (picks : List ℕ) (words : Pieces) (read : Option ℕ) → ((p : Bool × List ℕ) → joined_from line p.0 p.1 words ≡ by_numbers line p.0 p.1 (numbers_of words))
    → (pushed_by line picks read andthen λ p. joined_from line p.0 p.1 words) ≡ by_numbers line room picks (read >>= λ n. numbers_of words >>= λ ns. Some (n ∷ ns))
by_word line room picks words None ih = refl
by_word line room picks words (Some n) ih = step_over line picks n words ih ∙ one_number line room picks n (numbers_of words)

joined_is : (line : ℕ) (room : Bool) (picks : List ℕ) (words : Pieces) → joined_from line room picks words ≡ by_numbers line room picks (numbers_of words)
joined_is line room picks [] = refl
joined_is line room picks (word ∷ words) = by_word line room picks words (number_of word) (λ p. joined_is line p.0 p.1 words)

abbrev picked : WorkView → List ℕ → Result WorkView WorkFault
picked w ps = Ok (record w { picks = ps })

taken_by : (line : ℕ) (w : WorkView) (read : Option (List ℕ)) → (read ≡ Some [] → ⊥) → step_by line w (read >>= λ ns. Some (OfPicks ns)) ≡ (by_numbers line true w.picks read andthen picked w)
taken_by line w None h = refl
taken_by line w (Some []) h = absurd (h refl)
taken_by line w (Some (n ∷ ns)) h =
    elim (nat_le (length w.picks + suc (length ns)) PICK_LIMIT) as (λ v. cond v (Ok (with_picks w (n ∷ ns))) (Err (TooLarge PickCount line)) ≡ (cond v (Ok (w.picks ++ n ∷ ns)) (Err (TooLarge PickCount line)) andthen picked w)) [
      | true ↦ refl
      | false ↦ refl
    ]

some_number : (read : Option ℕ) (more : Option (List ℕ)) → (read >>= λ n. more >>= λ ns. Some (n ∷ ns)) ≡ Some [] → ⊥
some_number None more e = absurd cc
some_number (Some n) None e = absurd cc
some_number (Some n) (Some ns) e = absurd cc

pub picks_taken : (line : ℕ) (w : WorkView) (words : List ℕ) → step_by line w (form_by Picks words) ≡ (joined_from line true w.picks (pieces 32 words) andthen picked w)
picks_taken line w words =
    let p = some_piece 32 words in
    let h : numbers_of (pieces 32 words) ≡ Some [] → ⊥ = λ e. some_number (number_of p.0) (numbers_of p.1) (sym (ap numbers_of p.2) ∙ e) in
    taken_by line w (numbers_of (pieces 32 words)) h ∙ ap (λ (r : Result (List ℕ) WorkFault). r andthen picked w) (sym (joined_is line true w.picks (pieces 32 words)))

pub gives_then : {A B C : Type 0} (view : A → B) (f : B → C) (r : Result A WorkFault) (read : Result B WorkFault) → Gives view r read → Gives (λ x. f (view x)) r (read andthen λ x. Ok (f x))
gives_then view f (Ok x) read h = rw h refl
gives_then view f (Err (BadLine n)) read h = rw h refl
gives_then view f (Err (TooLarge which n)) read h = rw h refl
gives_then view f (Err Memory) read h = tt

pub fails_on : {A B : Type 0} (fault : WorkFault) (read : Result A WorkFault) (f : A → Result B WorkFault) → Fails fault read → Fails fault (read andthen f)
fails_on (BadLine n) read f h = rw h refl
fails_on (TooLarge which n) read f h = rw h refl
fails_on Memory read f h = tt

pub picks_read : (line : ℕ) (w : WorkView) (words ps : List ℕ) → joined_from line true w.picks (pieces 32 words) ≡ Ok ps → step_by line w (form_by Picks words) ≡ Ok (record w { picks = ps })
picks_read line w words ps e = picks_taken line w words ∙ ap (λ (r : Result (List ℕ) WorkFault). r andthen picked w) e

pub picks_fail : (line : ℕ) (w : WorkView) (words : List ℕ) (fault : WorkFault) → Fails fault (joined_from line true w.picks (pieces 32 words)) → Fails fault (step_by line w (form_by Picks words))
picks_fail line w words fault f = rw (picks_taken line w words) (fails_on fault (joined_from line true w.picks (pieces 32 words)) (picked w) f)

-- whether there was room for the last pick is asked only where no word is left
any_room : (line : ℕ) (room : Bool) (picks : List ℕ) (bytes : List ℕ) → joined_from line room picks (pieces 32 bytes) ≡ joined_from line true picks (pieces 32 bytes)
any_room line room picks bytes = let p = some_piece 32 bytes in rw p.2 refl

pub one_cut : (line : ℕ) (picks bytes word behind after : List ℕ) (room : Bool) → cut_at 32 bytes ≡ Some (word, behind) → pushed line picks word ≡ Ok (room, after)
    → joined_from line true picks (pieces 32 bytes) ≡ joined_from line true after (pieces 32 behind)
one_cut line picks bytes word behind after room e f = rw (pieces_cut 32 bytes, e, f) (any_room line room after behind)

pub cut_fails : (line : ℕ) (picks bytes word behind : List ℕ) (fault : WorkFault) → cut_at 32 bytes ≡ Some (word, behind) → Fails fault (pushed line picks word)
    → Fails fault (joined_from line true picks (pieces 32 bytes))
cut_fails line picks bytes word behind fault e f = rw (pieces_cut 32 bytes, e) (fails_on fault (pushed line picks word) (λ p. joined_from line p.0 p.1 (pieces 32 behind)) f)

pub last_word : (line : ℕ) (picks bytes : List ℕ) → cut_at 32 bytes ≡ None → joined_from line true picks (pieces 32 bytes) ≡ (pushed line picks bytes andthen λ p. whole line p.0 p.1)
last_word line picks bytes e = rw (pieces_cut 32 bytes, e) refl

pub ruleset word_by_word = (one_cut, cut_fails, last_word)
