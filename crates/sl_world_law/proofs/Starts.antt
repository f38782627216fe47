-- Which children wait for the answer of their start.
use Rattle.sl_world_law.proofs.Sectors.{range_at}
use Rattle.sl_words.proofs.Lists.{got_index, there_is}
use Rattle.sl_trace.specs.Traces.{Child}
use Rattle.sl_words.proofs.CaseLaws.{is_false, some_value}
use Rattle.sl_words.specs.Words.{some_is}
use Rattle.std.proofs.Common.{ap, arith, refl, suc, sym, ◌∙◌}
use Rattle.std.proofs.lemmas.Bool.Decides.{Decides-eqb}
use Rattle.std.proofs.lemmas.Option.{slice_get-map}
use Rattle.std.specs.List.{list_any, range_with_len}
use Rattle.std.specs.Prelude.{AllPairs, Bool, List, Some, cond, false, filter, find, is_none, length, map, option_map, slice_get, slice_index_or, true, [], ℕ, ◌+◌, ◌<◌, ◌==◌, ◌||◌, ◌∷◌, ◌≡◌, ◌≢◌}

abbrev Apart : List Child → Type 0
Apart ks = AllPairs (λ k l. k.process ≢ l.process) ks

apart_tail : (x : Child) (ks : List Child) → Apart (x ∷ ks) → Apart ks
apart_tail x ks apart i j d lt inside = apart (suc i) (suc j) d (omega (arith, lt)) (omega (arith, inside))

-- No later child has the process of the first.
apart_head : (x : Child) (ks : List Child) (j : ℕ) (d : Child) → Apart (x ∷ ks) → j < length ks → x.process ≢ (slice_index_or ks j d).process
apart_head x ks j d apart inside = apart 0 (suc j) d (omega arith) (omega (arith, inside))

-- The number of a child, where they are numbered in order.
number_at : (n : ℕ) (ks : List Child) → map (λ (k : Child). k.process) ks ≡ range_with_len n (length ks) → (i : ℕ) (d : Child) → i < length ks
    → (slice_index_or ks i d).process ≡ n + i
number_at n ks numbered i d inside =
    let x = there_is ks i inside in
    ap (λ (k : Child). k.process) (got_index ks i x.0 d x.1)
    ∙ some_value x.0.process (n + i) (sym (slice_get-map (λ (k : Child). k.process) ks i ∙ ap (option_map (λ (k : Child). k.process)) x.1)
    ∙ ap (λ ns. slice_get ns i) numbered ∙ range_at n (length ks) i inside)

-- Children that are numbered in order have numbers of their own.
pub numbered_apart : (n : ℕ) (ks : List Child) → map (λ (k : Child). k.process) ks ≡ range_with_len n (length ks) → AllPairs (λ k l. k.process ≢ l.process) ks
numbered_apart n ks numbered i j d less inside same =
    let first = number_at n ks numbered i d (omega (arith, less, inside)) in
    let second = number_at n ks numbered j d inside in
    omega (arith, first, second, same, less)

-- Whether a child of this process waits.
abbrev waits_at : ℕ → List Child → Bool
waits_at p ks = list_any (λ q. q == p) (map (λ (k : Child). k.process) (filter (λ (k : Child). is_none k.answer) ks))

waits_first : (p : ℕ) (x : Child) (ks : List Child) (b n : Bool) → (x.process == p) ≡ b → is_none x.answer ≡ n → waits_at p (x ∷ ks) ≡ cond n (b || waits_at p ks) (waits_at p ks)
waits_first p x ks b true is wait =
    ap (λ z. list_any (λ q. q == p) (map (λ (k : Child). k.process) (cond z (x ∷ filter (λ (k : Child). is_none k.answer) ks) (filter (λ (k : Child). is_none k.answer) ks)))) wait
    ∙ ap (λ z. z || waits_at p ks) is
waits_first p x ks b false is wait =
    ap (λ z. list_any (λ q. q == p) (map (λ (k : Child). k.process) (cond z (x ∷ filter (λ (k : Child). is_none k.answer) ks) (filter (λ (k : Child). is_none k.answer) ks)))) wait

other_process : (p q r : ℕ) → (q == p) ≡ true → q ≢ r → (r == p) ≡ false
other_process p q r is other = is_false (r == p) (λ h. other ((Decides-eqb q p).0 is ∙ sym ((Decides-eqb r p).0 h)))

none_waits : (p q : ℕ) (ks : List Child) → (q == p) ≡ true → ((j : ℕ) (d : Child) → j < length ks → q ≢ (slice_index_or ks j d).process) → waits_at p ks ≡ false
none_waits p q [] is other = refl
none_waits p q (x ∷ ks) is other = go (is_none x.answer) refl (none_waits p q ks is (λ j d inside. other (suc j) d (omega (arith, inside))))
  where
    go : (n : Bool) → is_none x.answer ≡ n → waits_at p ks ≡ false → waits_at p (x ∷ ks) ≡ false
    go true wait rest = waits_first p x ks false true (other_process p q x.process is (other 0 x (omega arith))) wait ∙ rest
    go false wait rest = waits_first p x ks false false (other_process p q x.process is (other 0 x (omega arith))) wait ∙ rest

pub waits_is : (p : ℕ) (ks : List Child) → AllPairs (λ k l. k.process ≢ l.process) ks
    → some_is (λ (k : Child). is_none k.answer) (find (λ (k : Child). k.process == p) ks)
    ≡ list_any (λ q. q == p) (map (λ (k : Child). k.process) (filter (λ (k : Child). is_none k.answer) ks))
waits_is p [] apart = refl
waits_is p (x ∷ ks) apart = go (x.process == p) (is_none x.answer) refl refl (waits_is p ks (apart_tail x ks apart))
  where
    found : (b : Bool) → (x.process == p) ≡ b → some_is (λ (k : Child). is_none k.answer) (find (λ (k : Child). k.process == p) (x ∷ ks))
        ≡ some_is (λ (k : Child). is_none k.answer) (cond b (Some x) (find (λ (k : Child). k.process == p) ks))
    found b is = ap (λ z. some_is (λ (k : Child). is_none k.answer) (cond z (Some x) (find (λ (k : Child). k.process == p) ks))) is

    go : (b n : Bool) → (x.process == p) ≡ b → is_none x.answer ≡ n
        → some_is (λ (k : Child). is_none k.answer) (find (λ (k : Child). k.process == p) ks) ≡ waits_at p ks
        → some_is (λ (k : Child). is_none k.answer) (find (λ (k : Child). k.process == p) (x ∷ ks)) ≡ waits_at p (x ∷ ks)
    go true true is wait rest = found true is ∙ wait ∙ sym (waits_first p x ks true true is wait)
    go true false is wait rest =
        found true is ∙ wait ∙ sym (waits_first p x ks true false is wait ∙ none_waits p x.process ks is (λ j d inside. apart_head x ks j d apart inside))
    go false true is wait rest = found false is ∙ rest ∙ sym (waits_first p x ks false true is wait)
    go false false is wait rest = found false is ∙ rest ∙ sym (waits_first p x ks false false is wait)
