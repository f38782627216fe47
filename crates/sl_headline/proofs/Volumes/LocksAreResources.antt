-- A lock that a line names is a resource that a command may name.
use Rattle.sl_area.specs.AreaSizes.{IsGeometry, Sizes, roomy}
use Rattle.sl_run.specs.LockNames.{Lock, doubled, group_lockspace, group_path, is_group_name, is_volume_name}
use Rattle.sl_run.specs.LvmLines.{Deactivates, Gives, Gives_writing, Informs, LvmLine, Starts, Stops, Takes, Takes_comparing, is_area_word, is_volume_word, lvm_forms, lvm_line_in}
use Rattle.sl_text.specs.Forms.{Form, bad_column, exactly, fits_whole, fitting, made_by, pieces, word_at, words_of}
use Rattle.sl_text.specs.Names.{is_name, is_name_byte, is_path}
use Rattle.sl_text.specs.Numbers.{number_of}
use Rattle.sl_headline.proofs.Volumes.GroupLines.{line_is}
use Rattle.sl_headline.specs.Volumes.LockAsks.{lock_taken}
use Rattle.sl_headline.specs.Volumes.LockNames.{LocksAreResources}
use Rattle.sl_words.proofs.CaseLaws.{false_is_true, none_some, some_value}
use Rattle.sl_words.proofs.WordLaws.{and_true, or_true}
use Rattle.std.proofs.Common.{ap, arith, inl, inr, refl, subst, sym, ◌∙◌}
use Rattle.std.proofs.Math.Nat.{mul-mod_left}
use Rattle.std.proofs.lemmas.Bool.Decides.{Decides-eqb, nat_tests}
use Rattle.std.proofs.lemmas.List.Sums.{sum_by-cons}
use Rattle.std.proofs.lemmas.List.{length-append}
use Rattle.std.specs.Int.{is_in_range}
use Rattle.std.specs.List.{list_all}
use Rattle.std.specs.Prelude.{Bool, List, Ok, Some, codes, cond, count_by, false, find, if◌then◌else◌, length, nat_le, nat_lt, option_map, slice_get, suc, true, zero, [], ℕ, ◌%◌, ◌&&◌, ◌*◌, ◌++◌, ◌+◌, ◌==◌, ◌^◌, ◌||◌, ◌∷◌, ◌≡◌, ◌≤◌, ◌⊎◌}

-- ---- words that fit a form

fits_parts : (t : Bool) (tests fit words : ℕ) → ((suc tests == suc words) && ((if t then 1 + fit else 0) == suc words)) ≡ true
    → (t ≡ true) × (((tests == words) && (fit == words)) ≡ true)
fits_parts true tests fit words h = (refl, grind (arith, nat_tests))
fits_parts false tests fit words h = absurd (grind (arith, nat_tests))

-- A word passes the test in its place.
word_fits : (ps : List (List ℕ → Bool)) (ws : List (List ℕ)) (k : ℕ) (q : List ℕ → Bool) → fits_whole ps ws ≡ true → slice_get ps k ≡ Some q → q (word_at ws k) ≡ true
word_fits [] ws k q h is = absurd (none_some q is)
word_fits (p ∷ ps) [] k q h is = absurd (grind (arith, nat_tests))
word_fits (p ∷ ps) (w ∷ ws) zero q h is = subst (λ (f : List ℕ → Bool). f w ≡ true) (some_value p q is) (fits_parts (p w) (length ps) (fitting ps ws) (length ws) h).0
word_fits (p ∷ ps) (w ∷ ws) (suc k) q h is = word_fits ps ws k q (fits_parts (p w) (length ps) (fitting ps ws) (length ws) h).1 is

-- ---- which locks lines name

record FitsLock (area : ℕ) (l : Lock) : Type 0 where
  group : is_group_name l.group ≡ true
  name : is_name l.name ≡ true
  number : (l.number ≤ 2) ⊎ (nat_lt (l.number * area) (10 ^ 12) ≡ true)

abbrev LineFits : ℕ → LvmLine → Type 0
LineFits area (Takes l mode) = FitsLock area l
LineFits area (Takes_comparing l mode) = FitsLock area l
LineFits area (Gives_writing l) = FitsLock area l
LineFits area x = Unit {0}

abbrev AllFit : (LvmLine → Type 0) → List (Form LvmLine) → Type 0
AllFit P [] = Unit {0}
AllFit P (f ∷ fs) = ((ws : List (List ℕ)) → fits_whole f.words ws ≡ true → P (f.make ws)) × AllFit P fs

made_fits : (P : LvmLine → Type 0) (fs : List (Form LvmLine)) → AllFit P fs → (ws : List (List ℕ)) (x : LvmLine) → made_by fs ws ≡ Some x → P x
made_fits P [] all ws x h = absurd (none_some x h)
made_fits P (f ∷ fs) all ws x h = by (fits_whole f.words ws) refl (λ made. made_fits P fs all.1 ws x made) h where
  by : (t : Bool) → fits_whole f.words ws ≡ t → (made_by fs ws ≡ Some x → P x)
      → option_map (λ (g : Form LvmLine). g.make ws) (if t then Some f else find (λ (g : Form LvmLine). fits_whole g.words ws) fs) ≡ Some x → P x
  by true is later made = subst P (some_value (f.make ws) x made) (all.0 ws is)
  by false is later made = later made

volume_fits : (area : ℕ) (w n : List ℕ) → is_volume_word w ≡ true → is_area_word area n ≡ true
    → FitsLock area (record { group = word_at (pieces 47 w) 0; name = word_at (pieces 47 w) 1; number = number_of n })
volume_fits area w n named numbered =
    let both = and_true _ (is_volume_name (word_at (pieces 47 w) 1)) named in
    let group = and_true _ (is_group_name (word_at (pieces 47 w) 0)) both.0 in
    let name = and_true (is_name (word_at (pieces 47 w) 1)) _ both.1 in
    let number = and_true _ _ numbered in
    record { group = group.1; name = name.0; number = inr (and_true _ (nat_lt (number_of n * area) (10 ^ 12)) number.1).1 }

one_two : 1 ≤ 2
one_two = omega arith

two_two : 2 ≤ 2
two_two = omega arith

group_word : (verb mode : List ℕ) (more : List (List ℕ → Bool)) (ws : List (List ℕ))
    → fits_whole (exactly verb ∷ is_group_name ∷ exactly (codes "-m") ∷ exactly mode ∷ more) ws ≡ true
    → is_group_name (word_at ws 1) ≡ true
group_word verb mode more ws fits = word_fits (exactly verb ∷ is_group_name ∷ exactly (codes "-m") ∷ exactly mode ∷ more) ws 1 is_group_name fits refl

abbrev activating : ℕ → List ℕ → List (List ℕ → Bool)
activating area mode = exactly (codes "activate") ∷ is_volume_word ∷ exactly (codes "-m") ∷ exactly mode ∷ exactly (codes "-a") ∷ is_area_word area ∷ []

volume_words : (area : ℕ) (mode : List ℕ) (ws : List (List ℕ)) → fits_whole (activating area mode) ws ≡ true
    → FitsLock area (record { group = word_at (pieces 47 (word_at ws 1)) 0; name = word_at (pieces 47 (word_at ws 1)) 1; number = number_of (word_at ws 5) })
volume_words area mode ws fits =
    volume_fits area (word_at ws 1) (word_at ws 5) (word_fits (activating area mode) ws 1 is_volume_word fits refl)
    (word_fits (activating area mode) ws 5 (is_area_word area) fits refl)

forms_fit : (area : ℕ) → AllFit (LineFits area) (lvm_forms area)
unfolding lvm_forms
forms_fit area = (
  λ ws fits. tt,
  (
    λ ws fits. tt,
    (
      λ ws fits. record { group = group_word (codes "lock_gl") (codes "sh") [] ws fits; name = refl; number = inl one_two },
      (
        λ ws fits. record { group = group_word (codes "lock_gl") (codes "ex") [] ws fits; name = refl; number = inl one_two },
        (
          λ ws fits. tt,
          (
            λ ws fits. record { group = group_word (codes "lock_vg") (codes "sh") [] ws fits; name = refl; number = inl two_two },
            (
              λ ws fits. record { group = group_word (codes "lock_vg") (codes "ex") [] ws fits; name = refl; number = inl two_two },
              (
                λ ws fits. tt,
                (
                  λ ws fits. record { group = group_word (codes "lock_vg") (codes "un") (exactly (codes "-w") ∷ []) ws fits; name = refl; number = inl two_two },
                  (
                    λ ws fits. volume_words area (codes "sh") ws fits,
                    (
                      λ ws fits. volume_words area (codes "ex") ws fits,
                      (λ ws fits. tt, (λ ws fits. tt, tt)),
                    ),
                  ),
                ),
              ),
            ),
          ),
        ),
      ),
    ),
  ),
)

line_fits : (area : ℕ) (text : List ℕ) (x : LvmLine) → lvm_line_in area text ≡ Ok x → LineFits area x
line_fits area text x h =
    made_fits (LineFits area) (lvm_forms area) (forms_fit area) (words_of text) x
    (line_is (made_by (lvm_forms area) (words_of text)) (bad_column (lvm_forms area) (words_of text)) x h)

taken_fits : (area : ℕ) (x : LvmLine) (l : Lock) → lock_taken x ≡ Some l → LineFits area x → FitsLock area l
taken_fits area (Takes k mode) l is fits = subst (FitsLock area) (some_value k l is) fits
taken_fits area (Takes_comparing k mode) l is fits = subst (FitsLock area) (some_value k l is) fits
taken_fits area (Gives_writing k) l is fits = subst (FitsLock area) (some_value k l is) fits
taken_fits area (Starts group id) l is fits = absurd (none_some l is)
taken_fits area (Stops group id) l is fits = absurd (none_some l is)
taken_fits area (Gives k) l is fits = absurd (none_some l is)
taken_fits area (Deactivates group name) l is fits = absurd (none_some l is)
taken_fits area Informs l is fits = absurd (none_some l is)

-- ---- names and paths

both_true : (a b : Bool) → a ≡ true → b ≡ true → (a && b) ≡ true
both_true true true p q = refl
both_true false b p q = absurd (false_is_true p)
both_true true false p q = absurd (false_is_true q)

short : (a b : ℕ) → nat_le (a + b) 43 ≡ true → a + b ≤ 43
short a b h = grind (arith, nat_tests)

four_more : (n k : ℕ) → n + k ≤ 43 → is_in_range 1 48 (suc (suc (suc (suc n)))) ≡ true
four_more n k h = grind (arith, nat_tests)

abbrev dashes : List ℕ → ℕ
dashes g = count_by (λ c. c == 45) g

name_fits : (g : List ℕ) → is_group_name g ≡ true → is_name (group_lockspace g) ≡ true
name_fits g h =
    let both = and_true (is_name g) (nat_le (length g + dashes g) 43) h in
    both_true _ _ (four_more (length g) (dashes g) (short (length g) (dashes g) both.1)) (and_true (is_in_range 1 48 (length g)) (list_all is_name_byte g) both.0).1

two_more : (n a b : ℕ) → n ≡ a + b → suc (suc n) ≡ suc a + (1 + b)
two_more n a b h = omega (arith, h)

one_more : (n a b : ℕ) → n ≡ a + b → suc n ≡ suc a + (0 + b)
one_more n a b h = omega (arith, h)

doubled_length : (g : List ℕ) → length (doubled g) ≡ length g + dashes g
doubled_length [] = refl
doubled_length (c ∷ g) = by (c == 45) (doubled_length g) ∙ ap (λ n. suc (length g) + n) (sym (sum_by-cons (λ (x : ℕ). cond (x == 45) 1 0) c g)) where
  by : (t : Bool) → length (doubled g) ≡ length g + dashes g → length ((if t then 45 ∷ 45 ∷ [] else c ∷ []) ++ doubled g) ≡ suc (length g) + (cond t 1 0 + dashes g)
  by true h = two_more (length (doubled g)) (length g) (dashes g) h
  by false h = one_more (length (doubled g)) (length g) (dashes g) h

-- Whether a byte may stand in a path.
abbrev is_path_byte : ℕ → Bool
is_path_byte b = is_name_byte b || b == 47

either : (a b : Bool) → a ≡ true → (a || b) ≡ true
either true b h = refl
either false b h = absurd (false_is_true h)

doubled_bytes : (g : List ℕ) → list_all is_name_byte g ≡ true → list_all is_path_byte (doubled g ++ codes "-lvmlock") ≡ true
doubled_bytes [] h = refl
doubled_bytes (c ∷ g) h =
    let both = and_true (is_name_byte c) (list_all is_name_byte g) h in
    by (c == 45) (doubled_bytes g both.1) (either (is_name_byte c) (c == 47) both.0) where
      by : (t : Bool) → list_all is_path_byte (doubled g ++ codes "-lvmlock") ≡ true → is_path_byte c ≡ true
          → list_all is_path_byte (((if t then 45 ∷ 45 ∷ [] else c ∷ []) ++ doubled g) ++ codes "-lvmlock") ≡ true
      by true rest is = rest
      by false rest is = both_true (is_path_byte c) (list_all is_path_byte (doubled g ++ codes "-lvmlock")) is rest

room : (n k : ℕ) → n ≡ k + 8 → k ≤ 43 → nat_le (suc (suc (suc (suc (suc (suc (suc (suc (suc (suc (suc n))))))))))) 63 ≡ true
room n k h less = grind (arith, nat_tests, h, less)

path_fits : (g : List ℕ) → is_group_name g ≡ true → is_path (group_path g) ≡ true
path_fits g h =
    let both = and_true (is_name g) (nat_le (length g + dashes g) 43) h in
    let long : length (doubled g ++ codes "-lvmlock") ≡ (length g + dashes g) + 8 = length-append (doubled g) (codes "-lvmlock") ∙ ap (λ n. n + 8) (doubled_length g) in
    both_true _ _ (room (length (doubled g ++ codes "-lvmlock")) (length g + dashes g) long (short (length g) (dashes g) both.1))
    (doubled_bytes g (and_true (is_in_range 1 48 (length g)) (list_all is_name_byte g) both.0).1)

-- ---- areas

small_row : (s : Sizes) (sector area most : ℕ) (rest : Bool) → area ≤ 8388608 → (sector == s.sector && area == s.area && is_in_range 1 most s.hosts || rest) ≡ true
    → (rest ≡ true → s.area ≤ 8388608) → s.area ≤ 8388608
small_row s sector area most rest small h others = by (or_true (sector == s.sector && area == s.area && is_in_range 1 most s.hosts) rest h) where
  by : ((sector == s.sector && area == s.area && is_in_range 1 most s.hosts) ≡ true) ⊎ (rest ≡ true) → s.area ≤ 8388608
  by (inr is) = others is
  by (inl is) =
      let both = and_true (sector == s.sector) (area == s.area) (and_true (sector == s.sector && area == s.area) (is_in_range 1 most s.hosts) is).0 in
      subst (λ n. n ≤ 8388608) ((Decides-eqb area s.area).0 both.1) small

areas_are_small : (s : Sizes) → IsGeometry s → s.area ≤ 8388608
areas_are_small s h =
    small_row s 512 1048576 (roomy s.paired 2000) _ (omega arith) h (λ h.
    small_row s 4096 1048576 (roomy s.paired 250) _ (omega arith) h (λ h.
    small_row s 4096 2097152 (roomy s.paired 500) _ (omega arith) h (λ h.
    small_row s 4096 4194304 (roomy s.paired 1000) _ (omega arith) h (λ h.
    small_row s 4096 8388608 (roomy s.paired 2000) _ (omega arith) h (λ h. absurd (false_is_true h))))))

product_small : (n area : ℕ) → n ≤ 2 → area ≤ 8388608 → n * area ≤ 2 * 8388608
product_small n area h k = grind arith

below : (m : ℕ) → m ≤ 2 * 8388608 → nat_lt m (10 ^ 12) ≡ true
below m h = grind (arith, nat_tests, h)

below_all : (n area : ℕ) → n ≤ 2 → area ≤ 8388608 → nat_lt (n * area) (10 ^ 12) ≡ true
below_all n area h k = below (n * area) (product_small n area h k)

number_below : (n area : ℕ) → (n ≤ 2) ⊎ (nat_lt (n * area) (10 ^ 12) ≡ true) → area ≤ 8388608 → nat_lt (n * area) (10 ^ 12) ≡ true
number_below n area (inl few) small = below_all n area few small
number_below n area (inr is) small = is

same_zero : (n : ℕ) → n ≡ 0 → (n == 0) ≡ true
same_zero n h = grind (arith, nat_tests, h)

pub locks_are_resources : LocksAreResources
locks_are_resources h header l (text, x, read, takes) =
    let area : ℕ = h.geometry.area in
    let fits : FitsLock area l = taken_fits area x l takes (line_fits area text x read) in
    record {
      space = name_fits l.group fits.group;
      named = fits.name;
      disk = path_fits l.group fits.group;
      base = both_true (l.number * area % area == 0) (nat_lt (l.number * area) (10 ^ 12)) (same_zero (l.number * area % area) (mul-mod_left l.number area))
          (number_below l.number area fits.number (areas_are_small h.geometry header.geometry));
    }
