-- Parts of a step put together.
use Rattle.sl_due.specs.DueWake.{for_sessions}
use Rattle.sl_due.specs.Steps.{Step, for_each, when}
use Rattle.sl_host_state.specs.KeptState.{HostState}
use Rattle.sl_host_state.specs.Passes.{PartsAreTaken, PassesAreTaken, TakesFirst, whos}
use Rattle.sl_host_state.specs.HostStands.{Stands, Takes}
use Rattle.sl_trace.specs.declared.session.Session.{Session}
use Rattle.sl_trace.specs.Traces.{Job}
use Rattle.sl_trace.specs.declared.effects.Grant.{Grant}
use Rattle.sl_trace.specs.declared.effects.Spot.{Spot}
use Rattle.sl_words.proofs.CaseLaws.{none_some, some_value}
use Rattle.std.proofs.Common.{ap, arith, refl, subst, suc, sym, zero, ◌∙◌}
use Rattle.std.specs.Prelude.{Bool, List, Some, false, length, map, slice_get, take, true, [], ℕ, ◌+◌, ◌∷◌, ◌≡◌}

one_each : {A : Type 0} (f : A → Step → Step) (xs : List A) (k : ℕ) (s : A) (x : Step) → slice_get xs k ≡ Some s → for_each (take (suc k) xs) f x ≡ f s (for_each (take k xs) f x)
one_each f [] k s x there = absurd (none_some s there)
one_each f (y ∷ ys) zero s x there = ap (λ z. f z x) (some_value y s there)
one_each f (y ∷ ys) (suc k) s x there = one_each f ys k s (f y x) there

all_each : {A : Type 0} (f : A → Step → Step) (xs : List A) (x : Step) → for_each (take (length xs) xs) f x ≡ for_each xs f x
all_each f [] x = refl
all_each f (y ∷ ys) x = all_each f ys (f y x)

tested : (t : Bool) (f : Step → Step) (a b : HostState) → (t ≡ true → Takes a b f) → (t ≡ false → b ≡ a) → Takes a b (when t f)
tested true f a b then_takes else_same i x stands = then_takes refl i x stands
tested false f a b then_takes else_same i x stands = subst (λ h. Stands i h x) (sym (else_same refl)) stands

pub pass_more : {A : Type 0} (f : A → Step → Step) (xs : List A) (k : ℕ) (s : A) (a b c : HostState) → TakesFirst f xs k a b → slice_get xs k ≡ Some s → Takes b c (f s)
    → TakesFirst f xs (k + 1) a c
pass_more f xs k s a b c before there one i x stands =
    let next : suc k ≡ k + 1 = omega arith in
    subst (λ n. Stands i c (for_each (take n xs) f x)) next
    (subst (λ y. Stands i c y) (sym (one_each f xs k s x there)) (one i (for_each (take k xs) f x) (before i x stands)))

pub pass_whole : {A : Type 0} (f : A → Step → Step) (xs : List A) (n : ℕ) (a b : HostState) → n ≡ length xs → TakesFirst f xs n a b → Takes a b (for_each xs f)
pass_whole f xs n a b long all i x stands =
    subst (λ y. Stands i b y) (ap (λ m. for_each (take m xs) f x) long ∙ all_each f xs x) (all i x stands)

how_long : {A B : Type 0} (g : A → B) (xs : List A) → length xs ≡ length (map g xs)
how_long g [] = refl
how_long g (x ∷ xs) = ap (λ n. suc n) (how_long g xs)

pub pass_over : (f : Session → Step → Step) (n : ℕ) (a b : HostState) → n ≡ length a.members → TakesFirst f (whos a) n a b → Takes a b (for_sessions f)
pass_over f n a b long all i x stands =
    subst (λ ss. Stands i b (for_each ss f x)) (sym stands.keeps.present)
    (pass_whole f (whos a) n a b (long ∙ how_long (λ m. m.who) a.members) all i x stands)

passes_are_taken : (A : Type 0) → PassesAreTaken A
passes_are_taken A = record { first = λ f xs a i x stands. stands; more = pass_more; whole = pass_whole }

pub parts_are_taken : PartsAreTaken
parts_are_taken =
    record {
      none = λ a i x stands. stands;
      sequence = λ f g a b c one two i x stands. two i (f x) (one i x stands);
      test = tested;
      sessions = passes_are_taken Session;
      over = pass_over;
      jobs = passes_are_taken Job;
      processes = passes_are_taken ℕ;
      areas = passes_are_taken Spot;
      holdings = passes_are_taken Grant;
    }
