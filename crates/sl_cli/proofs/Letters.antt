-- The letters of options: what a letter names for the reader it names for the parser, though the one reads a byte and the other a character.
use Rattle.clap.specs.Walk.{Text, arg_by_short}
use Rattle.sl_cli.proofs.BuiltCommand.{Key, format, geometry, hosts, lockspace, name_of, resource, rules, stretch}
use Rattle.sl_cli.proofs.ParserTurns.{Names}
use Rattle.sl_cli.specs.CommandWords.{option_named}
use Rattle.std.proofs.Common.{List, None, Some, [], ap, arith, eqb, false, inl, inr, refl, subst, sym, true≢false, ℕ, ◌++◌, ◌<◌, ◌≡◌, ◌∙◌, ◌∷◌, ◌⊎◌}
use Rattle.std.proofs.lemmas.Bool.{cases_Bool, eq-eqb, eqb-true, ne_eqb}
use Rattle.std.proofs.lemmas.Str.{IsUtf8-past_char, byte_from_char, char_from_byte, chars_past_char, encode_ascii}
use Rattle.std.specs.Prelude.{bytes_eq, codes, encode_utf8_all, slice_get}
use Rattle.std.specs.Str.{IsUtf8, chars}

-- What stands behind a hyphen is text as well.
pub behind : (cs : Text) → IsUtf8 (45 ∷ cs) → IsUtf8 cs
behind cs u = IsUtf8-past_char (45 ∷ cs) cs 45 u (ap (λ (bs : Text). bs ++ cs) (sym (encode_ascii 45 (omega arith))))

-- A text's first character is its first byte, where either is below 128.
pub record First (c : ℕ) (cs : Text) (x : ℕ) : Type 0 where
  pub char : slice_get (chars (c ∷ cs)) 0 ≡ Some x
  pub small_char : x < 128 → x ≡ c
  pub small_byte : c < 128 → x ≡ c

first_with : (c : ℕ) (cs : Text) (ds : List ℕ) → IsUtf8 (c ∷ cs) → encode_utf8_all ds ≡ c ∷ cs → (x : ℕ) × First c cs x
first_with c cs [] u e = absurd cc
first_with c cs (x ∷ xs) u e = (
  x,
  record {
    char = ap (λ l. slice_get l 0) (chars_past_char (c ∷ cs) (encode_utf8_all xs) x u (sym e));
    small_char = λ small. sym (byte_from_char (c ∷ cs) (encode_utf8_all xs) x (sym e) small);
    small_byte = λ small. char_from_byte (c ∷ cs) (encode_utf8_all xs) x (sym e) small (omega arith);
  },
)

pub first_char : (c : ℕ) (cs : Text) → IsUtf8 (c ∷ cs) → (x : ℕ) × First c cs x
first_char c cs u = first_with c cs u.0 u u.1.1

-- So it is tested against a letter as the byte is.
same_letter : (c x l : ℕ) → l < 128 → (x < 128 → x ≡ c) → (c < 128 → x ≡ c) → eqb l c ≡ false → eqb l x ≡ false
same_letter c x l small of_char of_byte apart =
    ne_eqb l x (λ same. let here : x ≡ c = of_char (omega (arith, same, small)) in absurd (true≢false (sym (eq-eqb l c (same ∙ here)) ∙ apart)))

-- The reader and the parser know the letter as the option of this name.
pub record Known (c : ℕ) (k : Key) : Type 0 where
  pub named : option_named c ≡ Some (name_of k)
  pub letter : Names c k
  pub option : bytes_eq (name_of k) (codes "action") ≡ false

-- .. or neither knows it.
pub record Unknown (c x : ℕ) : Type 0 where
  pub unnamed : option_named c ≡ None
  pub missing : arg_by_short rules x ≡ None

unknown : (c x : ℕ) → eqb 115 c ≡ false → eqb 114 c ≡ false → eqb 110 c ≡ false → eqb 100 c ≡ false → eqb 103 c ≡ false → eqb 118 c ≡ false
    → eqb 115 x ≡ false → eqb 114 x ≡ false → eqb 110 x ≡ false → eqb 100 x ≡ false → eqb 103 x ≡ false → eqb 118 x ≡ false → Unknown c x
unknown c x s r n d g v s' r' n' d' g' v' = record { unnamed = rw (s, r, n, d, g, v) refl; missing = rw (s', r', n', d', g', v') refl }

pub letter_cases : (c x : ℕ) → (x < 128 → x ≡ c) → (c < 128 → x ≡ c) → ((k : Key) × Known c k) ⊎ Unknown c x
letter_cases c x of_char of_byte = elim (cases_Bool (eqb 115 c)) [
  | inl s ↦ inl (lockspace, subst (λ c. Known c lockspace) (eqb-true 115 c s) (record { named = refl; letter = record { named = refl; ascii = omega arith; no_hyphen = refl }; option = refl }))
  | inr s ↦ elim (cases_Bool (eqb 114 c)) [
    | inl r ↦ inl (resource, subst (λ c. Known c resource) (eqb-true 114 c r) (record { named = refl; letter = record { named = refl; ascii = omega arith; no_hyphen = refl }; option = refl }))
    | inr r ↦ elim (cases_Bool (eqb 110 c)) [
      | inl n ↦ inl (hosts, subst (λ c. Known c hosts) (eqb-true 110 c n) (record { named = refl; letter = record { named = refl; ascii = omega arith; no_hyphen = refl }; option = refl }))
      | inr n ↦ elim (cases_Bool (eqb 100 c)) [
        | inl d ↦ inl (stretch, subst (λ c. Known c stretch) (eqb-true 100 c d) (record { named = refl; letter = record { named = refl; ascii = omega arith; no_hyphen = refl }; option = refl }))
        | inr d ↦ elim (cases_Bool (eqb 103 c)) [
          | inl g ↦ inl (geometry, subst (λ c. Known c geometry) (eqb-true 103 c g) (record { named = refl; letter = record { named = refl; ascii = omega arith; no_hyphen = refl }; option = refl }))
          | inr g ↦ elim (cases_Bool (eqb 118 c)) [
            | inl v ↦ inl (format, subst (λ c. Known c format) (eqb-true 118 c v) (record { named = refl; letter = record { named = refl; ascii = omega arith; no_hyphen = refl }; option = refl }))
            | inr v ↦
                let apart : (l : ℕ) → l < 128 → eqb l c ≡ false → eqb l x ≡ false = λ l small e. same_letter c x l small of_char of_byte e in
                inr (unknown c x s r n d g v (apart 115 (omega arith) s) (apart 114 (omega arith) r) (apart 110 (omega arith) n) (apart 100 (omega arith) d) (apart 103 (omega arith) g)
                (apart 118 (omega arith) v))
          ]
        ]
      ]
    ]
  ]
]
