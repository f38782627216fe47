-- Numbers and the digits that write them.
use Rattle.sl_text.specs.Numbers.{is_number_text, number_of}
use Rattle.sl_words.specs.Words.{choose}
use Rattle.sl_words.proofs.ListLaws.{list_all_place}
use Rattle.sl_words.proofs.OptionLaws.{choose_at_false, choose_at_true}
use Rattle.sl_words.proofs.WordLaws.{and_true}
use Rattle.std.proofs.lemmas.Fmt.{decimal-digits_value, decimal_digit, decimal_nonempty, digits_decimal, digits_value-decimal, first_decimal}
use Rattle.std.proofs.lemmas.Bool.Decides.{nat_tests}
use Rattle.std.proofs.Common.{rules, eqb, lit<, suc, zero, ◌||◌, [], ◌∷◌, ◌^◌, List, None, Some, ap, arith, get_or, inl, inr, length, lit≤, ltb, sym, take, true, ℕ, ◌%◌, ◌*◌, ◌+◌, ◌/◌, ◌<◌, ◌≡◌, ◌≤◌, ◌∙◌}
use Rattle.std.proofs.Math.Nat.{div-add-mod, mul-add-mod_self_left}
use Rattle.std.proofs.lemmas.Bool.{cases_lt, le-ltb, lt-ltb}
use Rattle.std.proofs.lemmas.List.{take_all}
use Rattle.std.proofs.lemmas.Option.{none-some}
use Rattle.std.proofs.lemmas.Int.Digits.{digits_value_more}
use Rattle.std.proofs.lemmas.Str.Parse.{IsNumeralModel, digits_value-take-le, numerals_by_value}
use Rattle.std.specs.Char.{digit_value, is_ascii_digit}
use Rattle.std.specs.List.{list_all}
use Rattle.std.specs.Prelude.{decimal, not}

-- One more digit.
pub number_of_more : (ds : List ℕ) (i : ℕ) → i < length ds → number_of (take (i + 1) ds) ≡ number_of (take i ds) * 10 + digit_value (get_or ds i 0)
number_of_more ds i h = digits_value_more 10 ds i h

-- The digits behind can only make the number greater.
pub number_of-take-le : (ds : List ℕ) (i : ℕ) → number_of (take i ds) ≤ number_of ds
number_of-take-le ds i = digits_value-take-le 10 ds i (lit≤ tt)

-- Each byte of a number's text is a digit.
pub digit_at : (ds : List ℕ) (i : ℕ) → list_all is_ascii_digit ds ≡ true → i < length ds → is_ascii_digit (get_or ds i 0) ≡ true
digit_at ds i all h = list_all_place is_ascii_digit ds i 0 all h

-- What a reader of digits uses.
pub ruleset reading = (number_of_more, number_of-take-le, digit_at)

-- Where the digits so far with one more are past the bound, the whole number is.
pub value_over : (ds : List ℕ) (i v d top : ℕ) → i < length ds → v ≡ number_of (take i ds) → d ≡ digit_value (get_or ds i 0)
    → choose (ltb (v * 10 + d) top) (v * 10 + d) ≡ None → choose (ltb (number_of ds) top) (number_of ds) ≡ None
value_over ds i v d top inside so_far digit over =
    let past : top ≤ v * 10 + d = elim (cases_lt (v * 10 + d) top) [ inl h ↦ absurd (none-some _ (sym over ∙ choose_at_true _ _ (lt-ltb _ _ h))) | inr h ↦ h ] in
    choose_at_false _ _ (le-ltb _ _ (omega (arith, number_of_more ds i inside, number_of-take-le ds (i + 1))))

-- The digits so far are all of them.
pub value_whole : (ds : List ℕ) (i v top : ℕ) → length ds ≤ i → v ≡ number_of (take i ds) → v < top → Some v ≡ choose (ltb (number_of ds) top) (number_of ds)
value_whole ds i v top end so_far fits =
    let e : number_of ds ≡ v = sym (so_far ∙ ap number_of (take_all i ds end)) in rw e (sym (choose_at_true (ltb v top) v (lt-ltb v top fits)))

-- One more digit behind what is left of a division.
pub remainder_more : (n d step : ℕ) → (n % step * 10 + d) % step ≡ (n * 10 + d) % step
remainder_more n d step =
    let split : n * 10 + d ≡ step * (10 * (n / step)) + (n % step * 10 + d) = omega (arith, div-add-mod n step) in
    sym (ap (λ x. x % step) split ∙ mul-add-mod_self_left step (10 * (n / step)) (n % step * 10 + d))

-- What is left of the digits with one more.
pub remainder_next : (ds : List ℕ) (i r r' d step : ℕ) → i < length ds → r ≡ number_of (take i ds) % step → d ≡ digit_value (get_or ds i 0)
    → r' ≡ (r * 10 + d) % step → r' ≡ number_of (take (i + 1) ds) % step
remainder_next ds i r r' d step inside so_far digit next =
    next
    ∙ ap (λ x. (x * 10 + d) % step) so_far
    ∙ remainder_more (number_of (take i ds)) d step
    ∙ ap (λ x. (number_of (take i ds) * 10 + x) % step) digit
    ∙ ap (λ x. x % step) (sym (number_of_more ds i inside))

-- What is left of all digits.
pub remainder_whole : (ds : List ℕ) (i r step : ℕ) → length ds ≤ i → r ≡ number_of (take i ds) % step → r ≡ number_of ds % step
remainder_whole ds i r step end so_far = so_far ∙ ap (λ xs. number_of xs % step) (take_all i ds end)

-- What a divider of digits uses.
pub ruleset dividing = (number_of_more, remainder_more)

-- The digits of a number's text, in std's words.
own : IsNumeralModel (λ ds. list_all is_ascii_digit ds ≡ true) number_of
own = numerals_by_value _ (search rules)

-- A written number is read as itself.
pub number_of-decimal : (n : ℕ) → n < 2 ^ 64 → number_of (decimal n) ≡ n
number_of-decimal n h = digits_value-decimal own n h

-- A text of digits is a number's where it isn't empty, and begins with a zero only if that is all of it.
is_number_text_when : (ds : List ℕ) → 0 < length ds → list_all is_ascii_digit ds ≡ true → (get_or ds 0 0 ≡ 48 → length ds ≡ 1) → is_number_text ds ≡ true
is_number_text_when [] some all leading = absurd (omega arith)
is_number_text_when (d ∷ ds) some all leading = grind (arith, nat_tests)

-- Only the number 0 begins with a zero.
zero_alone : (n : ℕ) → n < 2 ^ 64 → get_or (decimal n) 0 0 ≡ 48 → length (decimal n) ≡ 1
zero_alone zero h e = ap length (decimal_digit 0 (lit< tt))
zero_alone (suc n) h e = absurd (omega (arith, first_decimal (suc n) (omega arith) h))

-- What is written is a number's text.
pub is_number_text-decimal : (n : ℕ) → n < 2 ^ 64 → is_number_text (decimal n) ≡ true
is_number_text-decimal n h =
    is_number_text_when (decimal n) (decimal_nonempty n h) (digits_decimal own n h) (zero_alone n h)

-- No digit stands behind a leading zero.
no_zero_behind : (d : ℕ) (ds : List ℕ) → (not (eqb d 48) || eqb (length ds) 0) ≡ true → d ≡ 48 → length (d ∷ ds) ≡ 1
no_zero_behind d ds h leading = grind (arith, nat_tests)

-- A number has one text.
pub decimal-number_of : (w : List ℕ) → is_number_text w ≡ true → number_of w < 2 ^ 64 → decimal (number_of w) ≡ w
decimal-number_of [] h fits = absurd cc
decimal-number_of (d ∷ ds) h fits =
    let parts = and_true _ _ h in
    decimal-digits_value own (d ∷ ds) parts.0 (omega arith) (no_zero_behind d ds parts.1) fits

-- Numbers and their texts.
pub ruleset texts = (is_number_text-decimal, number_of-decimal, decimal-number_of)

-- A number of one digit.
pub one_digit : (n : ℕ) → n < 10 → decimal n ≡ (48 + n) ∷ []
one_digit n few = decimal_digit n few
