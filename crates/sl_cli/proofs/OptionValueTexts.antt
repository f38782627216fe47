-- Words of several parts and what they stand for: each has one word.
use Rattle.sl_area.specs.AreaLayout.{is_base}
use Rattle.sl_area.specs.AreaSizes.{Sizes, layout_of}
use Rattle.sl_cli.specs.OptionValues.{Stretch, is_host_count, is_new_lockspace, is_stretch, is_stretch_size, is_stretch_start, new_lockspace, room_for, stretch_of}
use Rattle.sl_cli.specs.Spellings.{IsNewLockspace, IsStretchArg, stretch_word}
use Rattle.sl_command.proofs.PartTexts.{base_small, number_read, number_written, range_small}
use Rattle.sl_text.proofs.FreeLaws.{decimal_free, name_free, path_free}
use Rattle.sl_text.proofs.NumberLaws.{decimal-number_of, number_of-decimal}
use Rattle.sl_text.proofs.PieceLaws.{join_with_byte-pieces, pieces-join_with_byte}
use Rattle.sl_text.specs.Forms.{coloned, is_free_of, pieces, word_at}
use Rattle.sl_text.specs.Names.{is_name}
use Rattle.sl_text.specs.Numbers.{number_of}
use Rattle.sl_trace.specs.CommandForms.{lockspace_word}
use Rattle.sl_trace.specs.declared.command.LockspaceArg.{LockspaceArg}
use Rattle.sl_words.proofs.WordLaws.{and_true}
use Rattle.std.proofs.Common.{Bool, List, [], ap, arith, eqb, false, length, ltb, refl, sym, true, ℕ, ◌%◌, ◌/◌, ◌<◌, ◌^◌, ◌≡◌, ◌≤◌, ◌∙◌, ◌∷◌}
use Rattle.std.proofs.lemmas.Bool.{and_from, eqb-true, ltb-true}
use Rattle.std.proofs.lemmas.Slice.Eq.{bytes_eq-Decides}
use Rattle.std.specs.Int.{is_in_range}
use Rattle.std.specs.List.{list_all}
use Rattle.std.specs.Prelude.{codes, decimal}

-- ---- hosts

small_hosts : (p : Bool) (most : Sizes) (n : ℕ) → most.hosts ≤ 2000 → is_in_range 1 (room_for p most) n ≡ true → n < 2 ^ 64
small_hosts true most n few h = range_small 1 (most.hosts / 2) n (omega (arith, few)) h
small_hosts false most n few h = range_small 1 most.hosts n (omega (arith, few)) h

pub hosts_read : (p : Bool) (most : Sizes) (w : List ℕ) → most.hosts ≤ 2000 → is_host_count p most w ≡ true
    → (is_in_range 1 (room_for p most) (number_of w) ≡ true) × (decimal (number_of w) ≡ w)
hosts_read p most w few h = number_read (is_in_range 1 (room_for p most)) w h (small_hosts p most (number_of w) few (and_true _ _ h).1)

pub hosts_written : (p : Bool) (most : Sizes) (n : ℕ) → most.hosts ≤ 2000 → is_in_range 1 (room_for p most) n ≡ true
    → (is_host_count p most (decimal n) ≡ true) × (number_of (decimal n) ≡ n)
hosts_written p most n few is =
    (number_written (is_in_range 1 (room_for p most)) n (small_hosts p most n few is) is, number_of-decimal n (small_hosts p most n few is))

-- ---- lockspaces

four_parts : (ps : List (List ℕ)) → length ps ≡ 4 → ps ≡ word_at ps 0 ∷ word_at ps 1 ∷ word_at ps 2 ∷ word_at ps 3 ∷ []
four_parts [] h = absurd (omega arith)
four_parts (a ∷ []) h = absurd (omega arith)
four_parts (a ∷ b ∷ []) h = absurd (omega arith)
four_parts (a ∷ b ∷ c ∷ []) h = absurd (omega arith)
four_parts (a ∷ b ∷ c ∷ d ∷ []) h = refl
four_parts (a ∷ b ∷ c ∷ d ∷ e ∷ ps) h = absurd (omega arith)

-- The word of the id that no host has.
zero_word : decimal 0 ≡ codes "0"
zero_word = decimal-number_of (codes "0") refl (omega arith)

-- A new lockspace's word names one that may be made, and is that lockspace's word.
pub lockspace_read : (most : Sizes) (w : List ℕ) → is_new_lockspace most w ≡ true → IsNewLockspace most (new_lockspace w) × (lockspace_word (new_lockspace w) ≡ w)
lockspace_read most w h =
    let ps : List (List ℕ) = pieces 58 w in
    let a = and_true _ _ h in
    let b = and_true _ _ a.0 in
    let c = and_true _ _ b.0 in
    let d = and_true _ _ c.0 in
    let zero_is : codes "0" ≡ word_at ps 1 = (bytes_eq-Decides (codes "0") (word_at ps 1)).0 c.1 in
    let base = number_read (is_base (layout_of most)) (word_at ps 3) a.1 (base_small (layout_of most) (number_of (word_at ps 3)) (and_true _ _ a.1).1) in (
      record { named = d.1; no_host = refl; disk = b.1; base = base.0 },
      ap (λ v. coloned (word_at ps 0 ∷ v ∷ word_at ps 2 ∷ decimal (number_of (word_at ps 3)) ∷ [])) (zero_word ∙ zero_is)
          ∙ ap (λ v. coloned (word_at ps 0 ∷ word_at ps 1 ∷ word_at ps 2 ∷ v ∷ [])) base.1
          ∙ ap coloned (sym (four_parts ps (eqb-true _ _ d.0))) ∙ join_with_byte-pieces 58 w,
    )

-- The parts of its word.
abbrev lockspace_parts : LockspaceArg → List (List ℕ)
lockspace_parts l = l.name ∷ codes "0" ∷ l.path ∷ decimal l.offset ∷ []

lockspace_free : (most : Sizes) (l : LockspaceArg) → IsNewLockspace most l → list_all (is_free_of 58) (lockspace_parts l) ≡ true
lockspace_free most l is =
    and_from _ _ (name_free 58 l.name refl is.named) (and_from _ _ (path_free 58 l.path refl is.disk)
    (and_from _ _ (decimal_free 58 l.offset refl (base_small (layout_of most) l.offset is.base)) refl))

-- A lockspace that may be made has a word, which is read as that lockspace.
lockspace_from : (most : Sizes) (w : List ℕ) (l : LockspaceArg) → pieces 58 w ≡ lockspace_parts l → IsNewLockspace most l → (is_new_lockspace most w ≡ true) × (new_lockspace w ≡ l)
lockspace_from most w l cut is =
    let small = base_small (layout_of most) l.offset is.base in (
      rw cut (and_from _ _ (and_from _ _ (and_from (is_name l.name) true is.named refl) is.disk) (number_written (is_base (layout_of most)) l.offset small is.base)),
      rw cut (λ i. record { name = l.name; id = sym is.no_host i; path = l.path; offset = number_of-decimal l.offset small i }),
    )

pub lockspace_written : (most : Sizes) (l : LockspaceArg) → IsNewLockspace most l → (is_new_lockspace most (lockspace_word l) ≡ true) × (new_lockspace (lockspace_word l) ≡ l)
lockspace_written most l is =
    let spelled : lockspace_word l ≡ coloned (lockspace_parts l) = ap (λ id. coloned (l.name ∷ decimal id ∷ l.path ∷ decimal l.offset ∷ [])) is.no_host ∙ ap (λ v. coloned (l.name ∷ v ∷ l.path ∷ decimal l.offset ∷ [])) zero_word in
    lockspace_from most (lockspace_word l) l (ap (pieces 58) spelled ∙ pieces-join_with_byte 58 (lockspace_parts l) (lockspace_free most l is) (omega arith)) is

-- ---- stretches

three_parts : (ps : List (List ℕ)) → length ps ≡ 3 → ps ≡ word_at ps 0 ∷ word_at ps 1 ∷ word_at ps 2 ∷ []
three_parts [] h = absurd (omega arith)
three_parts (a ∷ []) h = absurd (omega arith)
three_parts (a ∷ b ∷ []) h = absurd (omega arith)
three_parts (a ∷ b ∷ c ∷ []) h = refl
three_parts (a ∷ b ∷ c ∷ d ∷ ps) h = absurd (omega arith)

small_start : (sector n : ℕ) → is_stretch_start sector n ≡ true → n < 2 ^ 64
small_start sector n h = let below : n < 10 ^ 12 = ltb-true n (10 ^ 12) (and_true (eqb (n % sector) 0) (ltb n (10 ^ 12)) h).1 in omega (arith, below)

small_size : (sector n : ℕ) → is_stretch_size sector n ≡ true → n < 2 ^ 64
small_size sector n h = range_small 1 1048576 n (omega arith) (and_true (eqb (n % sector) 0) _ h).1

-- A stretch's word names one that may be told, and is that stretch's word.
pub stretch_read : (sector : ℕ) (w : List ℕ) → is_stretch sector w ≡ true
    → let s : Stretch = stretch_of w in IsStretchArg sector s.path s.offset s.size × (stretch_word s.path s.offset s.size ≡ w)
stretch_read sector w h =
    let ps : List (List ℕ) = pieces 58 w in
    let a = and_true _ _ h in
    let b = and_true _ _ a.0 in
    let c = and_true _ _ b.0 in
    let start = number_read (is_stretch_start sector) (word_at ps 1) b.1 (small_start sector (number_of (word_at ps 1)) (and_true _ _ b.1).1) in
    let size = number_read (is_stretch_size sector) (word_at ps 2) a.1 (small_size sector (number_of (word_at ps 2)) (and_true _ _ a.1).1) in (
      record { disk = c.1; start = start.0; long = size.0 },
      ap (λ v. coloned (word_at ps 0 ∷ v ∷ decimal (number_of (word_at ps 2)) ∷ [])) start.1 ∙ ap (λ v. coloned (word_at ps 0 ∷ word_at ps 1 ∷ v ∷ [])) size.1
          ∙ ap coloned (sym (three_parts ps (eqb-true _ _ c.0))) ∙ join_with_byte-pieces 58 w,
    )

-- The parts of its word.
abbrev stretch_parts : List ℕ → ℕ → ℕ → List (List ℕ)
stretch_parts path offset size = path ∷ decimal offset ∷ decimal size ∷ []

stretch_from : (sector : ℕ) (w path : List ℕ) (offset size : ℕ) → pieces 58 w ≡ stretch_parts path offset size → IsStretchArg sector path offset size
    → (is_stretch sector w ≡ true) × (stretch_of w ≡ record { path = path; offset = offset; size = size })
stretch_from sector w path offset size cut is =
    let start = small_start sector offset is.start in
    let long = small_size sector size is.long in (
      rw cut (and_from _ _ (and_from _ _ is.disk (number_written (is_stretch_start sector) offset start is.start)) (number_written (is_stretch_size sector) size long is.long)),
      rw cut (λ i. record { path = path; offset = number_of-decimal offset start i; size = number_of-decimal size long i }),
    )

-- A stretch that may be told has a word, which is read as that stretch.
pub stretch_written : (sector : ℕ) (path : List ℕ) (offset size : ℕ) → IsStretchArg sector path offset size
    → (is_stretch sector (stretch_word path offset size) ≡ true) × (stretch_of (stretch_word path offset size) ≡ record { path = path; offset = offset; size = size })
stretch_written sector path offset size is =
    let free = and_from _ _ (path_free 58 path refl is.disk) (and_from _ _ (decimal_free 58 offset refl (small_start sector offset is.start))
    (and_from _ _ (decimal_free 58 size refl (small_size sector size is.long)) refl)) in
    stretch_from sector (stretch_word path offset size) path offset size (pieces-join_with_byte 58 (stretch_parts path offset size) free (omega arith)) is
