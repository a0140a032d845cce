-- Operations whose bodies stand among the bytes stay as they are when bytes are put behind.
use Rattle.std.proofs.Common.{◌≡◌, ℕ, ◌+◌, ◌≤◌, List, [], ◌∷◌, ◌++◌, length, take, drop, slice_get, refl, inl, inr, ap, sym, arith, Option, None, Some, ◌∙◌}
use Rattle.std.specs.Prelude.{option_map, map}
use Rattle.std.proofs.lemmas.List.{take-append-le, drop-append-le, length-drop, length-append, map-append}
use Rattle.std.proofs.Math.Seq.{drop-append_seam, take-length}
use Rattle.std.proofs.lemmas.Option.{slice_get-map}
use Rattle.std.proofs.lemmas.Bool.Decides.{leb_tells}
use Rattle.far_base.specs.Padded.{text_of}
use Rattle.far_base.specs.declared.body.TheConstants.{BODY_LIMIT}
use Rattle.far_base.specs.declared.plan.OpLine.{OpLine}
use Rattle.far_base.specs.declared.ops.Short.{Short}
use Rattle.far_base.specs.OpsView.{body_in, line_in, lines_in, short_of, AreWithin}

part_stays : (bytes more : List ℕ) (at len : ℕ) → at + len ≤ length bytes → take len (drop at (bytes ++ more)) ≡ take len (drop at bytes)
part_stays bytes more at len h =
    ap (take len) (drop-append-le at bytes more (omega arith)) ∙ take-append-le len (drop at bytes) more (omega (arith, length-drop at bytes))

lines_stay : (bytes more : List ℕ) (shorts : List Short) → AreWithin (length bytes) shorts → lines_in (bytes ++ more) shorts ≡ lines_in bytes shorts
lines_stay bytes more [] h = refl
lines_stay bytes more (s ∷ ss) h = rw (part_stays bytes more s.at s.len h.0, lines_stay bytes more ss h.1) refl

-- a body is read where it was put
put_there : (bytes : List ℕ) (line : OpLine) (body : Option (List ℕ)) → length (text_of body) ≤ BODY_LIMIT
    → body_in (bytes ++ text_of body) (short_of (length bytes) (record line { body = body })) ≡ body
put_there bytes line None h = refl
put_there bytes line (Some text) h =
    let a : drop (length bytes) (bytes ++ text) ≡ text = drop-append_seam bytes text in
    let b : take (length text) text ≡ text = take-length text in
    rw (a, b) (elim (leb_tells (length text) BODY_LIMIT) [ inl e ↦ rw e.0 refl | inr e ↦ absurd (omega (arith, e.1, h)) ])

line_there : (bytes : List ℕ) (line : OpLine) → length (text_of line.body) ≤ BODY_LIMIT → line_in (bytes ++ text_of line.body) (short_of (length bytes) line) ≡ line
line_there bytes line h = ap (λ (b : Option (List ℕ)). record line { body = b }) (put_there bytes line line.body h)

pub lines_more : (bytes : List ℕ) (shorts : List Short) (line : OpLine) → length (text_of line.body) ≤ BODY_LIMIT → AreWithin (length bytes) shorts
    → lines_in (bytes ++ text_of line.body) (shorts ++ short_of (length bytes) line ∷ []) ≡ lines_in bytes shorts ++ line ∷ []
lines_more bytes shorts line h w =
    rw (map-append (line_in (bytes ++ text_of line.body)) shorts (short_of (length bytes) line ∷ []), lines_stay bytes (text_of line.body) shorts w, line_there bytes line h) refl

each_within : (n m : ℕ) (shorts : List Short) → n ≤ m → AreWithin n shorts → AreWithin m shorts
each_within n m [] h w = tt
each_within n m (s ∷ ss) h w = (omega (arith, w.0), each_within n m ss h w.1)

each_more : (n : ℕ) (shorts : List Short) (s : Short) → AreWithin n shorts → s.at + s.len ≤ n → AreWithin n (shorts ++ s ∷ [])
each_more n [] s w h = (h, tt)
each_more n (x ∷ xs) s w h = (w.0, each_more n xs s w.1 h)

pub within_more : (bytes : List ℕ) (shorts : List Short) (line : OpLine) → AreWithin (length bytes) shorts
    → AreWithin (length (bytes ++ text_of line.body)) (shorts ++ short_of (length bytes) line ∷ [])
within_more bytes shorts line w =
    let e : length (bytes ++ text_of line.body) ≡ length bytes + length (text_of line.body) = length-append bytes (text_of line.body) in
    each_more (length (bytes ++ text_of line.body)) shorts (short_of (length bytes) line)
    (each_within (length bytes) (length (bytes ++ text_of line.body)) shorts (omega (arith, e)) w) (omega (arith, e))

pub line_of_lines : (bytes : List ℕ) (shorts : List Short) (place : ℕ) (s : Short) → slice_get shorts place ≡ Some s → slice_get (lines_in bytes shorts) place ≡ Some (line_in bytes s)
line_of_lines bytes shorts place s e = slice_get-map (line_in bytes) shorts place ∙ ap (option_map (line_in bytes)) e

pub client_of_lines : (bytes : List ℕ) (shorts : List Short) (place : ℕ) (s : Short) → slice_get shorts place ≡ Some s
    → slice_get (map (λ (l : OpLine). l.client) (lines_in bytes shorts)) place ≡ Some s.client
client_of_lines bytes shorts place s e =
    slice_get-map (λ (l : OpLine). l.client) (lines_in bytes shorts) place ∙ ap (option_map (λ (l : OpLine). l.client)) (line_of_lines bytes shorts place s e)
