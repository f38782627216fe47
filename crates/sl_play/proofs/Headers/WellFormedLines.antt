-- What the forms of header lines make is well formed.
use Rattle.sl_report.specs.HeaderLines.{AreaLine, ClockLine, DiskLine, HeaderLine, HostsLine, IdsLine, LeaseLine, LvmLine, MemberLine, header_forms, is_positive_word}
use Rattle.sl_text.specs.Forms.{Form, exactly, fits_whole, fitting, made_by, word_at}
use Rattle.sl_text.specs.Names.{is_name, is_path}
use Rattle.sl_text.specs.Numbers.{capped_long, capped_short, is_number_text, is_number_that, number_of}
use Rattle.sl_words.proofs.CaseLaws.{some_value}
use Rattle.sl_words.proofs.WordLaws.{and_true}
use Rattle.std.proofs.Common.{Bool, List, Some, [], ap, arith, cond, eqb, false, get_or, length, min, refl, subst, suc, true, zero, ℕ, ◌%◌, ◌&&◌, ◌+◌, ◌-◌, ◌<◌, ◌^◌, ◌≡◌, ◌∙◌, ◌∷◌, ◌≤◌}
use Rattle.std.proofs.lemmas.Bool.{eqb-true, leb-true, ltb-true}
use Rattle.std.proofs.lemmas.Bool.Decides.{nat_tests}
use Rattle.std.specs.Int.{is_in_range}
use Rattle.std.specs.List.{find}
use Rattle.std.specs.Option.{option_map}
use Rattle.std.specs.Prelude.{IsTrue, codes, if◌then◌else◌, nat_le, nat_lt, ◌==◌}

-- ---- words that fit

-- The first test and the others.
fits_parts : (t : Bool) (tests fit words : ℕ) → (eqb (suc tests) (suc words) && eqb (if t then 1 + fit else 0) (suc words)) ≡ true → (t ≡ true) × ((eqb tests words && eqb fit words) ≡ true)
fits_parts true tests fit words h = (refl, grind (arith, nat_tests))
fits_parts false tests fit words h = absurd (grind (arith, nat_tests))

no_words : (tests : ℕ) → (eqb (suc tests) 0 && eqb 0 0) ≡ true → ⊥
no_words tests h = grind (arith, nat_tests)

-- Each word passes its test.
passes : (ps : List (List ℕ → Bool)) (ws : List (List ℕ)) (k : ℕ) → fits_whole ps ws ≡ true → k < length ps → get_or ps k (λ w. true) (word_at ws k) ≡ true
passes [] ws k h lt = absurd (omega arith)
passes (p ∷ ps) [] k h lt = absurd (no_words (length ps) h)
passes (p ∷ ps) (w ∷ ws) zero h lt = (fits_parts (p w) (length ps) (fitting ps ws) (length ws) h).0
passes (p ∷ ps) (w ∷ ws) (suc k) h lt = passes ps ws k (fits_parts (p w) (length ps) (fitting ps ws) (length ws) h).1 (omega arith)

-- ---- what forms make

abbrev EachForm : {A : Type 0} → (A → Type 0) → List (Form A) → Type 0
EachForm P [] = Unit {0}
EachForm P (f ∷ fs) = ((ws : List (List ℕ)) → fits_whole f.words ws ≡ true → P (f.make ws)) × EachForm P fs

-- What holds of all that each form makes holds of what they make.
made_holds : {A : Type 0} (P : A → Type 0) (fs : List (Form A)) → EachForm P fs → (ws : List (List ℕ)) (a : A) → made_by fs ws ≡ Some a → P a
made_holds P [] all ws a h = absurd cc
made_holds {A} P (f ∷ fs) all ws a h =
    elim (fits_whole f.words ws) as (λ t. fits_whole f.words ws ≡ t → option_map (λ (f : Form A). f.make ws) (cond t (Some f) (find (λ f. fits_whole f.words ws) fs)) ≡ Some a → P a) [
      | true ↦ λ e made. subst P (some_value _ _ made) (all.0 ws e)
      | false ↦ λ e made. made_holds P fs all.1 ws a made
    ] refl h

-- ---- header lines

-- The greatest number of 64 bits stands for all above it.
abbrev pub IsOffset : ℕ → ℕ → Type 0
IsOffset area offset = offset < 2 ^ 64 - 1 → offset % area ≡ 0

-- What is so of a line whatever stands before it.
abbrev pub IsWellFormed : ℕ → HeaderLine → Type 0
IsWellFormed area (HostsLine m) = (1 ≤ m) × (m ≤ 16)
IsWellFormed area (IdsLine n) = 1 ≤ n
IsWellFormed area (LvmLine n) = n ≤ 8
IsWellFormed area (ClockLine c) = (1 ≤ c.machine) × (c.reading < 10 ^ 12)
IsWellFormed area (DiskLine d) = IsTrue (is_path d.path) × (1 ≤ d.mebibytes) × (d.mebibytes ≤ 64)
IsWellFormed area (AreaLine l) = IsTrue (is_name l.name) × IsOffset area l.offset
IsWellFormed area (LeaseLine r) = IsTrue (is_name r.name) × IsOffset area r.offset
IsWellFormed area (MemberLine s) = (1 ≤ s.machine) × (1 ≤ s.id) × IsTrue (is_name s.name)
IsWellFormed area l = Unit {0}

number_passes : (p : ℕ → Bool) (w : List ℕ) → is_number_that p w ≡ true → p (number_of w) ≡ true
number_passes p w h = (and_true (is_number_text w) (p (number_of w)) h).1

in_range : (low high n : ℕ) → is_in_range low high n ≡ true → (low ≤ n) × (n ≤ high)
in_range low high n h = (grind (arith, nat_tests), grind (arith, nat_tests))

between : (low high : ℕ) (w : List ℕ) → is_number_that (is_in_range low high) w ≡ true → (low ≤ number_of w) × (number_of w ≤ high)
between low high w h = in_range low high (number_of w) (number_passes (is_in_range low high) w h)

above_none : (n : ℕ) → nat_lt 0 n ≡ true → 1 ≤ min n (2 ^ 32 - 1)
above_none n h = grind (arith, nat_tests)

positive : (w : List ℕ) → is_positive_word w ≡ true → 1 ≤ capped_short w
positive w h = above_none (number_of w) (number_passes (λ n. nat_lt 0 n) w h)

offset_of : (area n : ℕ) → (n % area == 0) ≡ true → min n (2 ^ 64 - 1) < 2 ^ 64 - 1 → min n (2 ^ 64 - 1) % area ≡ 0
offset_of area n h small = let same : min n (2 ^ 64 - 1) ≡ n = omega arith in ap (λ m. m % area) same ∙ eqb-true _ _ h

-- The k-th word.
word_passes : (ps : List (List ℕ → Bool)) (k : ℕ) → nat_lt k (length ps) ≡ true → (ws : List (List ℕ)) → fits_whole ps ws ≡ true → get_or ps k (λ w. true) (word_at ws k) ≡ true
word_passes ps k inside ws h = passes ps ws k h (ltb-true _ _ inside)

abbrev hosts_tests : List (List ℕ → Bool)
hosts_tests = exactly (codes "hosts") ∷ is_number_that (is_in_range 1 16) ∷ []

abbrev lvm_tests : List (List ℕ → Bool)
lvm_tests = exactly (codes "lvm") ∷ is_number_that (λ n. nat_le n 8) ∷ []

abbrev ids_tests : List (List ℕ → Bool)
ids_tests = exactly (codes "ids") ∷ is_positive_word ∷ []

abbrev clock_tests : List (List ℕ → Bool)
clock_tests = exactly (codes "clock") ∷ is_positive_word ∷ is_number_that (λ n. nat_lt n (10 ^ 12)) ∷ []

abbrev disk_tests : List (List ℕ → Bool)
disk_tests = exactly (codes "disk") ∷ is_path ∷ is_number_that (is_in_range 1 64) ∷ []

abbrev area_tests : ℕ → List (List ℕ → Bool)
area_tests area = exactly (codes "lockspace") ∷ is_name ∷ is_path ∷ is_number_that (λ n. n % area == 0) ∷ []

abbrev lease_tests : ℕ → List (List ℕ → Bool)
lease_tests area = exactly (codes "resource") ∷ is_name ∷ is_name ∷ is_path ∷ is_number_that (λ n. n % area == 0) ∷ []

abbrev member_tests : List (List ℕ → Bool)
member_tests = exactly (codes "session") ∷ is_positive_word ∷ is_name ∷ is_number_that (is_in_range 1 2000) ∷ is_name ∷ []

hosts_form : (ws : List (List ℕ)) → fits_whole hosts_tests ws ≡ true → (1 ≤ number_of (word_at ws 1)) × (number_of (word_at ws 1) ≤ 16)
hosts_form ws h = between 1 16 (word_at ws 1) (word_passes hosts_tests 1 refl ws h)

lvm_form : (ws : List (List ℕ)) → fits_whole lvm_tests ws ≡ true → number_of (word_at ws 1) ≤ 8
lvm_form ws h = leb-true (number_of (word_at ws 1)) 8 (number_passes (λ n. nat_le n 8) (word_at ws 1) (word_passes lvm_tests 1 refl ws h))

some_long : (n : ℕ) → nat_lt 0 n ≡ true → 1 ≤ min n (2 ^ 64 - 1)
some_long n h = grind (arith, nat_tests)

ids_form : (ws : List (List ℕ)) → fits_whole ids_tests ws ≡ true → 1 ≤ capped_long (word_at ws 1)
ids_form ws h = some_long (number_of (word_at ws 1)) (number_passes (λ n. nat_lt 0 n) (word_at ws 1) (word_passes ids_tests 1 refl ws h))

reading_below : (w : List ℕ) → is_number_that (λ n. nat_lt n (10 ^ 12)) w ≡ true → number_of w < 10 ^ 12
reading_below w h = ltb-true (number_of w) (10 ^ 12) (number_passes (λ n. nat_lt n (10 ^ 12)) w h)

clock_form : (ws : List (List ℕ)) → fits_whole clock_tests ws ≡ true → (1 ≤ capped_short (word_at ws 1)) × (number_of (word_at ws 2) < 10 ^ 12)
clock_form ws h = (positive (word_at ws 1) (word_passes clock_tests 1 refl ws h), reading_below (word_at ws 2) (word_passes clock_tests 2 refl ws h))

disk_form : (ws : List (List ℕ)) → fits_whole disk_tests ws ≡ true → IsTrue (is_path (word_at ws 1)) × (1 ≤ number_of (word_at ws 2)) × (number_of (word_at ws 2) ≤ 64)
disk_form ws h = let size = between 1 64 (word_at ws 2) (word_passes disk_tests 2 refl ws h) in (word_passes disk_tests 1 refl ws h, size.0, size.1)

aligned : (area : ℕ) (w : List ℕ) → is_number_that (λ n. n % area == 0) w ≡ true → IsOffset area (capped_long w)
aligned area w h = offset_of area (number_of w) (number_passes (λ n. n % area == 0) w h)

area_form : (area : ℕ) (ws : List (List ℕ)) → fits_whole (area_tests area) ws ≡ true → IsTrue (is_name (word_at ws 1)) × IsOffset area (capped_long (word_at ws 3))
area_form area ws h = (word_passes (area_tests area) 1 refl ws h, aligned area (word_at ws 3) (word_passes (area_tests area) 3 refl ws h))

lease_form : (area : ℕ) (ws : List (List ℕ)) → fits_whole (lease_tests area) ws ≡ true → IsTrue (is_name (word_at ws 2)) × IsOffset area (capped_long (word_at ws 4))
lease_form area ws h = (word_passes (lease_tests area) 2 refl ws h, aligned area (word_at ws 4) (word_passes (lease_tests area) 4 refl ws h))

member_form : (ws : List (List ℕ)) → fits_whole member_tests ws ≡ true → (1 ≤ capped_short (word_at ws 1)) × (1 ≤ number_of (word_at ws 3)) × IsTrue (is_name (word_at ws 4))
member_form ws h = (
  positive (word_at ws 1) (word_passes member_tests 1 refl ws h),
  (between 1 2000 (word_at ws 3) (word_passes member_tests 3 refl ws h)).0,
  word_passes member_tests 4 refl ws h,
)

each_form : (area : ℕ) → EachForm (IsWellFormed area) (header_forms area)
unfolding header_forms
each_form area = (
  (λ ws h. tt),
  (
    (λ ws h. tt),
    (
      hosts_form,
      (
        ids_form,
        ((λ ws h. tt), (lvm_form, (clock_form, (disk_form, (area_form area, (lease_form area, (member_form, ((λ ws h. tt), tt)))))))),
      ),
    ),
  ),
)

pub well_formed : (area : ℕ) (ws : List (List ℕ)) (l : HeaderLine) → made_by (header_forms area) ws ≡ Some l → IsWellFormed area l
well_formed area = made_holds (IsWellFormed area) (header_forms area) (each_form area)
