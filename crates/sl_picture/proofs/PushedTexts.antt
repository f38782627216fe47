-- Texts that are put out one behind the other.
use Rattle.std.proofs.Common.{List, ap, ℕ, ◌++◌, ◌∙◌, ◌≡◌}
use Rattle.std.proofs.lemmas.List.{append_assoc}
use Rattle.std.specs.Prelude.{Err, Ok, OnOk, Result}

pub text_more : (old a b was now : List ℕ) → was ≡ old ++ a → now ≡ was ++ b → now ≡ old ++ (a ++ b)
text_more old a b was now before here = here ∙ ap (λ text. text ++ b) before ∙ append_assoc old a b

pub three_texts : (old a b c first second last : List ℕ) → first ≡ old ++ a → second ≡ first ++ b → last ≡ second ++ c → last ≡ old ++ (a ++ b ++ c)
three_texts old a b c first second last one two three = text_more old (a ++ b) c second last (text_more old a b first second one two) three

pub six_texts : (old a b c d e f first second third fourth fifth last : List ℕ) → first ≡ old ++ a → second ≡ first ++ b → third ≡ second ++ c → fourth ≡ third ++ d
    → fifth ≡ fourth ++ e → last ≡ fifth ++ f → last ≡ old ++ (a ++ b ++ c ++ d ++ e ++ f)
six_texts old a b c d e f first second third fourth fifth last one two three four five six =
    text_more old (a ++ b ++ c ++ d ++ e) f fifth last (text_more old (a ++ b ++ c ++ d) e fourth fifth (text_more old (a ++ b ++ c) d third fourth
    (three_texts old a b c first second third one two three) four) five) six

pub on_ok : {T E : Type 0} (P Q : Type 0) (r : Result T E) → (P → Q) → OnOk r P → OnOk r Q
on_ok P Q (Ok t) goes p = goes p
on_ok P Q (Err e) goes p = tt
