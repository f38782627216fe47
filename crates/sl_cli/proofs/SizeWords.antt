-- Words that say sizes: one for each row of the table.
use Rattle.sl_area.specs.AreaSizes.{IsGeometry, Sizes, roomy, sizes}
use Rattle.sl_cli.specs.OptionValues.{for_hosts, room_for, sizes_of, sizes_said, usual_sizes}
use Rattle.sl_cli.specs.Spellings.{IsRow, SaysSizes, sizes_word}
use Rattle.sl_text.proofs.NumberLaws.{decimal-number_of}
use Rattle.sl_text.specs.Forms.{coloned}
use Rattle.sl_words.proofs.CaseLaws.{none_some}
use Rattle.sl_words.proofs.WordLaws.{and_true, or_true}
use Rattle.std.proofs.Common.{Bool, List, None, Option, Some, [], ap, arith, eqb, false, inl, inr, leb, refl, subst, sym, true, ℕ, ◌&&◌, ◌/◌, ◌≡◌, ◌≤◌, ◌∙◌, ◌∷◌}
use Rattle.std.proofs.lemmas.Bool.{and_from, cases_Bool, eqb-true, le-leb, leb-true, or_left, or_right}
use Rattle.std.proofs.lemmas.Slice.Eq.{bytes_eq-Decides}
use Rattle.std.specs.Int.{is_in_range}
use Rattle.std.specs.Prelude.{bytes_eq, codes, decimal, ◌||◌}

-- ---- the rows, one by one

nothing_holds : {A : Type 0} → false ≡ true → A
nothing_holds h = absurd cc

-- Sizes with pairs or without.
abbrev sizes_as : Bool → ℕ → ℕ → ℕ → Sizes
sizes_as p a b n = record { sector = a; area = b; hosts = n; paired = p }

-- Sizes that pass a row's test.
sizes_at : (a b : ℕ) (p : Bool) (g : Sizes) (t : Bool) → g.paired ≡ p → (eqb a g.sector && eqb b g.area && t) ≡ true → (sizes_as p a b g.hosts ≡ g) × (t ≡ true)
sizes_at a b p g t pairs h =
    let all = and_true (eqb a g.sector && eqb b g.area) t h in
    let both = and_true (eqb a g.sector) (eqb b g.area) all.0 in
    let sector : a ≡ g.sector = eqb-true a g.sector both.0 in
    let area : b ≡ g.area = eqb-true b g.area both.1 in
    (λ i. sizes_as (sym pairs i) (sector i) (area i) g.hosts, all.1)

at_row : (P : Sizes → Type 0) (a b n : ℕ) (g : Sizes) → g.paired ≡ false → P (sizes a b n) → (eqb a g.sector && eqb b g.area && eqb n g.hosts) ≡ true → P g
at_row P a b n g plain p h =
    let at = sizes_at a b false g (eqb n g.hosts) plain h in
    subst P (ap (λ (k : ℕ). sizes a b k) (eqb-true n g.hosts at.1) ∙ at.0) p

-- What holds of each row holds of any.
pub by_row : (P : Sizes → Type 0) → P (sizes 512 1048576 2000) → P (sizes 4096 1048576 250) → P (sizes 4096 2097152 500) → P (sizes 4096 4194304 1000)
    → P (sizes 4096 8388608 2000) → (g : Sizes) → IsRow g → P g
by_row P a b c d e g is = elim (or_true _ _ is.0) [
  | inl h ↦ at_row P 512 1048576 2000 g is.1 a h
  | inr rest ↦ elim (or_true _ _ rest) [
    | inl h ↦ at_row P 4096 1048576 250 g is.1 b h
    | inr rest ↦ elim (or_true _ _ rest) [
      | inl h ↦ at_row P 4096 2097152 500 g is.1 c h
      | inr rest ↦ elim (or_true _ _ rest) [
        | inl h ↦ at_row P 4096 4194304 1000 g is.1 d h
        | inr rest ↦ elim (or_true _ _ rest) [ inl h ↦ at_row P 4096 8388608 2000 g is.1 e h | inr h ↦ nothing_holds h ]
      ]
    ]
  ]
]

in_row : (P : Sizes → Type 0) (a b most : ℕ) (g : Sizes) → ((p : Bool) (n : ℕ) → is_in_range 1 (roomy p most) n ≡ true → P (sizes_as p a b n))
    → (eqb a g.sector && eqb b g.area && is_in_range 1 (roomy g.paired most) g.hosts) ≡ true → P g
in_row P a b most g each h =
    let at = sizes_at a b g.paired g (is_in_range 1 (roomy g.paired most) g.hosts) refl h in
    subst P at.0 (each g.paired g.hosts at.1)

-- What holds of each row, for any of its hosts, with pairs or without, holds of any sizes.
by_geometry : (P : Sizes → Type 0) → ((p : Bool) (n : ℕ) → is_in_range 1 (roomy p 2000) n ≡ true → P (sizes_as p 512 1048576 n))
    → ((p : Bool) (n : ℕ) → is_in_range 1 (roomy p 250) n ≡ true → P (sizes_as p 4096 1048576 n))
    → ((p : Bool) (n : ℕ) → is_in_range 1 (roomy p 500) n ≡ true → P (sizes_as p 4096 2097152 n))
    → ((p : Bool) (n : ℕ) → is_in_range 1 (roomy p 1000) n ≡ true → P (sizes_as p 4096 4194304 n))
    → ((p : Bool) (n : ℕ) → is_in_range 1 (roomy p 2000) n ≡ true → P (sizes_as p 4096 8388608 n)) → (g : Sizes) → IsGeometry g → P g
by_geometry P a b c d e g is = elim (or_true _ _ is) [
  | inl h ↦ in_row P 512 1048576 2000 g a h
  | inr is ↦ elim (or_true _ _ is) [
    | inl h ↦ in_row P 4096 1048576 250 g b h
    | inr is ↦ elim (or_true _ _ is) [
      | inl h ↦ in_row P 4096 2097152 500 g c h
      | inr is ↦ elim (or_true _ _ is) [
        | inl h ↦ in_row P 4096 4194304 1000 g d h
        | inr is ↦ elim (or_true _ _ is) [ inl h ↦ in_row P 4096 8388608 2000 g e h | inr h ↦ nothing_holds h ]
      ]
    ]
  ]
]

-- ---- hosts

low_high : (n most : ℕ) → is_in_range 1 most n ≡ true → n ≤ most
low_high n most h = leb-true n most (and_true (leb 1 n) (leb n most) h).1

in_order : (n few most : ℕ) → is_in_range 1 few n ≡ true → few ≤ most → is_in_range 1 most n ≡ true
in_order n few most h up =
    let both = and_true (leb 1 n) (leb n few) h in
    and_from (leb 1 n) (leb n most) both.0 (le-leb n most (omega (arith, up, low_high n few h)))

pub few_hosts : (g : Sizes) → IsRow g → g.hosts ≤ 2000
few_hosts = by_row (λ g. g.hosts ≤ 2000) (omega arith) (omega arith) (omega arith) (omega arith) (omega arith)

pub row_geometry : (g : Sizes) → IsRow g → IsGeometry g
row_geometry = by_row IsGeometry refl refl refl refl refl

-- Fewer hosts have room where more have it, and with pairs half of them.
fewer_in : (p q : Bool) (most hosts n : ℕ) → is_in_range 1 (roomy q most) hosts ≡ true → is_in_range 1 (roomy p hosts) n ≡ true → is_in_range 1 (roomy p most) n ≡ true
fewer_in true true most hosts n h k = in_order n (hosts / 2) (most / 2) k (omega (arith, low_high hosts (most / 2) h))
fewer_in true false most hosts n h k = in_order n (hosts / 2) (most / 2) k (omega (arith, low_high hosts most h))
fewer_in false true most hosts n h k = in_order n hosts most k (omega (arith, low_high hosts (most / 2) h))
fewer_in false false most hosts n h k = in_order n hosts most k (low_high hosts most h)

fewer_row : (p : Bool) (a b most : ℕ) (g : Sizes) (n : ℕ) → is_in_range 1 (room_for p g) n ≡ true → (eqb a g.sector && eqb b g.area && is_in_range 1 (roomy g.paired most) g.hosts) ≡ true
    → (eqb a g.sector && eqb b g.area && is_in_range 1 (roomy p most) n) ≡ true
fewer_row p a b most g n few h =
    let all = and_true (eqb a g.sector && eqb b g.area) (is_in_range 1 (roomy g.paired most) g.hosts) h in
    and_from (eqb a g.sector && eqb b g.area) (is_in_range 1 (roomy p most) n) all.0 (fewer_in p g.paired most g.hosts n all.1 few)

either_way : (a b c d : Bool) → (a ≡ true → c ≡ true) → (b ≡ true → d ≡ true) → (a || b) ≡ true → (c || d) ≡ true
either_way true b c d h k is = or_left c d (h refl)
either_way false b c d h k is = or_right c d (k is)

pub fewer_hosts : (p : Bool) (g : Sizes) (n : ℕ) → IsGeometry g → is_in_range 1 (room_for p g) n ≡ true → IsGeometry (for_hosts p g n)
fewer_hosts p g n is few =
    either_way _ _ _ _ (fewer_row p 512 1048576 2000 g n few)
    (either_way _ _ _ _ (fewer_row p 4096 1048576 250 g n few)
    (either_way _ _ _ _ (fewer_row p 4096 2097152 500 g n few)
    (either_way _ _ _ _ (fewer_row p 4096 4194304 1000 g n few)
    (either_way _ _ _ _ (fewer_row p 4096 8388608 2000 g n few) (λ h. h))))) is

-- A row's sizes for as many hosts as it has room for.
pub geometry_for : (p : Bool) (most : Sizes) → IsRow most → (n : ℕ) → is_in_range 1 (room_for p most) n ≡ true → IsGeometry (for_hosts p most n)
geometry_for p most row n h = fewer_hosts p most n (row_geometry most row) h

-- Sizes are of a row.
pub record IsOfRow (g most : Sizes) : Type 0 where
  pub row : IsRow most
  pub same : for_hosts g.paired most g.hosts ≡ g
  pub range : is_in_range 1 (room_for g.paired most) g.hosts ≡ true

pub row_of : (g : Sizes) → IsGeometry g → (most : Sizes) × IsOfRow g most
row_of =
    by_geometry (λ g. (most : Sizes) × IsOfRow g most) (λ p n h. (sizes 512 1048576 2000, record { row = (refl, refl); same = refl; range = h }))
    (λ p n h. (sizes 4096 1048576 250, record { row = (refl, refl); same = refl; range = h }))
    (λ p n h. (sizes 4096 2097152 500, record { row = (refl, refl); same = refl; range = h }))
    (λ p n h. (sizes 4096 4194304 1000, record { row = (refl, refl); same = refl; range = h }))
    (λ p n h. (sizes 4096 8388608 2000, record { row = (refl, refl); same = refl; range = h }))

-- ---- words

joined : (a b : ℕ) (v w : List ℕ) → decimal a ≡ v → decimal b ≡ w → coloned (decimal a ∷ decimal b ∷ []) ≡ coloned (v ∷ w ∷ [])
joined a b v w first second = λ i. coloned (first i ∷ second i ∷ [])

small_sector : decimal 512 ≡ codes "512"
small_sector = decimal-number_of (codes "512") refl (omega arith)

large_sector : decimal 4096 ≡ codes "4096"
large_sector = decimal-number_of (codes "4096") refl (omega arith)

one : decimal 1 ≡ codes "1"
one = decimal-number_of (codes "1") refl (omega arith)

two : decimal 2 ≡ codes "2"
two = decimal-number_of (codes "2") refl (omega arith)

four : decimal 4 ≡ codes "4"
four = decimal-number_of (codes "4") refl (omega arith)

eight : decimal 8 ≡ codes "8"
eight = decimal-number_of (codes "8") refl (omega arith)

usual_word : sizes_word (sizes 512 1048576 2000) ≡ codes "512:1"
usual_word = joined 512 1 (codes "512") (codes "1") small_sector one

word_one : sizes_word (sizes 4096 1048576 250) ≡ codes "4096:1"
word_one = joined 4096 1 (codes "4096") (codes "1") large_sector one

word_two : sizes_word (sizes 4096 2097152 500) ≡ codes "4096:2"
word_two = joined 4096 2 (codes "4096") (codes "2") large_sector two

word_four : sizes_word (sizes 4096 4194304 1000) ≡ codes "4096:4"
word_four = joined 4096 4 (codes "4096") (codes "4") large_sector four

word_eight : sizes_word (sizes 4096 8388608 2000) ≡ codes "4096:8"
word_eight = joined 4096 8 (codes "4096") (codes "8") large_sector eight

-- What says sizes, or needs not, says those of a row.
pub record IsSaid (says : Option (List ℕ)) (most : Sizes) : Type 0 where
  pub row : IsRow most
  pub by : SaysSizes says most

word_said : (w known : List ℕ) (s most : Sizes) → bytes_eq w known ≡ true → IsRow s → sizes_word s ≡ known → Some s ≡ Some most → IsSaid (Some w) most
word_said w known s most e row word is =
    let same : s ≡ most = cc in
    subst (IsSaid (Some w)) same (record { row = row; by = (bytes_eq-Decides w known).0 e ∙ sym word })

word_read : (w : List ℕ) (most : Sizes) → sizes_of w ≡ Some most → IsSaid (Some w) most
word_read w most h = elim (cases_Bool (bytes_eq w (codes "512:1"))) [
  | inl e ↦ word_said w (codes "512:1") (sizes 512 1048576 2000) most e (refl, refl) usual_word (rw e at h)
  | inr a ↦ elim (cases_Bool (bytes_eq w (codes "4096:1"))) [
    | inl e ↦ word_said w (codes "4096:1") (sizes 4096 1048576 250) most e (refl, refl) word_one (rw (a, e) at h)
    | inr b ↦ elim (cases_Bool (bytes_eq w (codes "4096:2"))) [
      | inl e ↦ word_said w (codes "4096:2") (sizes 4096 2097152 500) most e (refl, refl) word_two (rw (a, b, e) at h)
      | inr c ↦ elim (cases_Bool (bytes_eq w (codes "4096:4"))) [
        | inl e ↦ word_said w (codes "4096:4") (sizes 4096 4194304 1000) most e (refl, refl) word_four (rw (a, b, c, e) at h)
        | inr d ↦ elim (cases_Bool (bytes_eq w (codes "4096:8"))) [
          | inl e ↦ word_said w (codes "4096:8") (sizes 4096 8388608 2000) most e (refl, refl) word_eight (rw (a, b, c, d, e) at h)
          | inr f ↦ absurd (none_some most (rw (a, b, c, d, f) at h))
        ]
      ]
    ]
  ]
]

pub said_read : (says : Option (List ℕ)) (most : Sizes) → sizes_said says ≡ Some most → IsSaid says most
said_read None most h = let same : usual_sizes ≡ most = cc in subst (IsSaid None) same (record { row = (refl, refl); by = (refl, refl) })
said_read (Some w) most h = word_read w most h

-- The word of a row says it.
row_written : (g : Sizes) → IsRow g → sizes_of (sizes_word g) ≡ Some g
row_written =
    by_row (λ g. sizes_of (sizes_word g) ≡ Some g) (ap sizes_of usual_word) (ap sizes_of word_one) (ap sizes_of word_two) (ap sizes_of word_four) (ap sizes_of word_eight)

not_usual : {A : Type 0} (n : ℕ) → n ≡ 4096 → n ≡ 512 → A
not_usual n is h = absurd (omega (arith, is, h))

usual_written : (g : Sizes) → IsRow g → g.sector ≡ 512 → g.area ≡ 1048576 → Some usual_sizes ≡ Some g
usual_written =
    by_row (λ g. g.sector ≡ 512 → g.area ≡ 1048576 → Some usual_sizes ≡ Some g) (λ s a. refl) (λ s a. not_usual 4096 refl s) (λ s a. not_usual 4096 refl s) (λ s a. not_usual 4096 refl s)
    (λ s a. not_usual 4096 refl s)

pub said_written : (says : Option (List ℕ)) (g : Sizes) → IsRow g → SaysSizes says g → sizes_said says ≡ Some g
said_written None g row is = usual_written g row is.0 is.1
said_written (Some w) g row is = ap sizes_of is ∙ row_written g row

-- A word of sizes says nothing of hosts.
pub same_says : (says : Option (List ℕ)) (p : Bool) (most : Sizes) (n : ℕ) → SaysSizes says most → SaysSizes says (for_hosts p most n)
same_says None p most n is = is
same_says (Some w) p most n is = is

says_most : (says : Option (List ℕ)) (p : Bool) (most : Sizes) (n : ℕ) → SaysSizes says (for_hosts p most n) → SaysSizes says most
says_most None p most n is = is
says_most (Some w) p most n is = is

-- What says the sizes says the row's.
pub row_written_for : (says : Option (List ℕ)) (g most : Sizes) → IsOfRow g most → SaysSizes says g → sizes_said says ≡ Some most
row_written_for says g most of is = said_written says most of.row (says_most says g.paired most g.hosts (subst (SaysSizes says) (sym of.same) is))
