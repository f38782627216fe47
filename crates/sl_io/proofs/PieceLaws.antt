-- Laws of lists that are read and written in pieces.
use Rattle.std.proofs.Common.{List, Option, ap, arith, drop, length, subst, sym, take, take-append-drop, ℕ, ◌++◌, ◌+◌, ◌-◌, ◌∙◌, ◌≡◌, ◌≤◌}
use Rattle.std.proofs.KnownBytes.{Appends-trans, Consumes-trans}
use Rattle.std.proofs.Math.Seq.{take-add, take-append-add}
use Rattle.std.proofs.lemmas.List.{drop-drop, length-take, take-append-le, take_rest}
use Rattle.std.specs.Io.KnownBytes.{Appends, Consumes}

-- Two writes of neighbouring pieces are one.
pub Appends-pieces : (a b c : Option (List ℕ)) → (bs : List ℕ) → (i n : ℕ)
    → Appends a b (take i bs) → Appends b c (take n (take (length bs - i) (drop i bs))) → Appends a c (take (i + n) bs)
Appends-pieces a b c bs i n first second =
    let joined : take i bs ++ take n (take (length bs - i) (drop i bs)) ≡ take (i + n) bs =
    ap (λ l. take i bs ++ take n l) (take_rest bs i) ∙ sym (take-add i n bs) in
    subst (Appends a c) joined (Appends-trans a b c _ _ first second)

-- What is left from a place on is the piece that was copied from there, and what is left behind it.
pub piece_and_rest : (bytes piece : List ℕ) → (at n : ℕ) → take n piece ≡ take n (drop at bytes) → drop at bytes ≡ take n piece ++ drop (at + n) bytes
piece_and_rest bytes piece at n copied =
    sym (ap (λ l. l ++ drop (at + n) bytes) copied ∙ ap (λ l. take n (drop at bytes) ++ l) (sym (drop-drop n at bytes)) ∙ take-append-drop n (drop at bytes))

-- Two reads into neighbouring pieces of a buffer are one.
pub Consumes-pieces : (a b c : Option (List ℕ)) → (buffer piece behind : List ℕ) → (i n : ℕ) → i ≤ length buffer → n ≤ length piece
    → Consumes a b (take i buffer) → Consumes b c (take n piece) → Consumes a c (take (i + n) (take i buffer ++ (piece ++ behind)))
Consumes-pieces a b c buffer piece behind i n within fits first second =
    let len : length (take i buffer) ≡ i = simp length-take (omega arith) in
    let joined : take (i + n) (take i buffer ++ (piece ++ behind)) ≡ take i buffer ++ take n piece =
    ap (λ k. take (k + n) (take i buffer ++ (piece ++ behind))) (sym len) ∙ take-append-add (take i buffer) (piece ++ behind) n
    ∙ ap (λ l. take i buffer ++ l) (take-append-le n piece behind fits) in
    subst (Consumes a c) (sym joined) (Consumes-trans a b c _ _ first second)
