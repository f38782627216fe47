-- Texts of whole lines, and the last line of a report.
use Rattle.sl_report.specs.Reports.{Counts, end_line}
use Rattle.sl_text.proofs.PieceLaws.{first_piece, pieces-front}
use Rattle.sl_text.specs.Forms.{as_bytes, is_free_of, lines_of, pieces, spaced, without_empty_last}
use Rattle.sl_words.proofs.CaseLaws.{is_false}
use Rattle.sl_words.proofs.Lists.{ends, head_is}
use Rattle.sl_words.proofs.WordLaws.{and_true}
use Rattle.std.proofs.Common.{ap, arith, inl, inr, mod-lt, refl, sym, ◌∙◌}
use Rattle.std.proofs.lemmas.Bool.Decides.{nat_tests}
use Rattle.std.proofs.lemmas.Bool.{and_from, eq-eqb, eqb-true, lt-ltb, not-true}
use Rattle.std.proofs.lemmas.List.Splits.{slice_split-cons_yes}
use Rattle.std.proofs.lemmas.List.{append-nil, append_assoc, append_cancel_right}
use Rattle.std.specs.Fmt.{digit_glyph, digits, digits_onto}
use Rattle.std.specs.List.{onto_first}
use Rattle.std.specs.Prelude.{Bool, List, codes, cond, decimal, false, if◌then◌else◌, length, nat_le, not, suc, true, zero, [], ℕ, ◌%◌, ◌&&◌, ◌++◌, ◌+◌, ◌/◌, ◌<◌, ◌==◌, ◌∷◌, ◌≡◌, ◌≤◌, ◌⊎◌}

-- ---- lines

-- Nothing, or lines that each end with a line feed.
abbrev pub WholeLines : List ℕ → Type 0
WholeLines bs = (bs ≡ []) ⊎ ((front : List ℕ) × (bs ≡ front ++ 10 ∷ []))

pub lines_are_whole : (ls : List (List ℕ)) → WholeLines (as_bytes ls)
lines_are_whole [] = inl refl
lines_are_whole (l ∷ ls) = by (lines_are_whole ls) where
  by : WholeLines (as_bytes ls) → WholeLines ((l ++ 10 ∷ []) ++ as_bytes ls)
  by (inl none) = inr (l, ap (λ (bs : List ℕ). (l ++ 10 ∷ []) ++ bs) none ∙ append-nil (l ++ 10 ∷ []))
  by (inr some) = inr ((l ++ 10 ∷ []) ++ some.0, ap (λ (bs : List ℕ). (l ++ 10 ∷ []) ++ bs) some.1 ∙ sym (append_assoc (l ++ 10 ∷ []) some.0 (10 ∷ [])))

onto_joined : (b : ℕ) (ps qs : List (List ℕ)) (w : List ℕ) (ws : List (List ℕ)) → ps ≡ w ∷ ws → onto_first b (ps ++ qs) ≡ onto_first b ps ++ qs
onto_joined b ps qs w ws is = ap (λ (xs : List (List ℕ)). onto_first b (xs ++ qs)) is ∙ sym (ap (λ (xs : List (List ℕ)). onto_first b xs ++ qs) is)

pieces_split : (c : ℕ) (v t : List ℕ) → pieces c (v ++ c ∷ t) ≡ pieces c v ++ pieces c t
pieces_split c [] t = slice_split-cons_yes (λ b. b == c) c t (eq-eqb c c refl)
pieces_split c (b ∷ v) t =
    ap (λ (ps : List (List ℕ)). cond (b == c) ([] ∷ ps) (onto_first b ps)) (pieces_split c v t) ∙ by (b == c)
  where
    by : (u : Bool)
        → cond u ([] ∷ (pieces c v ++ pieces c t)) (onto_first b (pieces c v ++ pieces c t)) ≡ cond u ([] ∷ pieces c v) (onto_first b (pieces c v)) ++ pieces c t
    by true = refl
    by false = let first = first_piece c v in onto_joined b (pieces c v) (pieces c t) first.0 first.1 first.2

kept_line : (l m : List ℕ) (ls : List (List ℕ)) → without_empty_last (l ∷ m ∷ ls) ≡ l ∷ without_empty_last (m ∷ ls)
kept_line [] m ls = refl
kept_line (b ∷ l) m ls = refl

kept_lines : (ps : List (List ℕ)) (m : List ℕ) (ls : List (List ℕ)) → without_empty_last (ps ++ m ∷ ls) ≡ ps ++ without_empty_last (m ∷ ls)
kept_lines [] m ls = refl
kept_lines (p ∷ []) m ls = kept_line p m ls
kept_lines (p ∷ q ∷ ps) m ls = kept_line p q (ps ++ m ∷ ls) ∙ ap (λ (xs : List (List ℕ)). p ∷ xs) (kept_lines (q ∷ ps) m ls)

behind_feed : (v t : List ℕ) → lines_of (v ++ 10 ∷ t) ≡ pieces 10 v ++ lines_of t
behind_feed v t =
    let first = first_piece 10 t in
    ap without_empty_last (pieces_split 10 v t ∙ ap (λ (ps : List (List ℕ)). pieces 10 v ++ ps) first.2) ∙ kept_lines (pieces 10 v) first.0 first.1
    ∙ ap (λ (ps : List (List ℕ)). pieces 10 v ++ without_empty_last ps) (sym first.2)

-- Lines behind whole lines.
pub lines_joined : (u t : List ℕ) → WholeLines u → lines_of (u ++ t) ≡ lines_of u ++ lines_of t
lines_joined u t (inl none) = ap (λ (bs : List ℕ). lines_of (bs ++ t)) none ∙ sym (ap (λ (bs : List ℕ). lines_of bs ++ lines_of t) none)
lines_joined u t (inr some) =
    ap (λ (bs : List ℕ). lines_of (bs ++ t)) some.1 ∙ ap lines_of (append_assoc some.0 (10 ∷ []) t) ∙ behind_feed some.0 t
    ∙ ap (λ (ps : List (List ℕ)). ps ++ lines_of t) (sym (append-nil (pieces 10 some.0)) ∙ sym (behind_feed some.0 []) ∙ ap lines_of (sym some.1))

-- ---- the last line

far : (d : ℕ) → 48 + d ≡ 32 → ⊥
far d h = absurd (omega (arith, h))

digit_free : (d : ℕ) → d < 10 → not (digit_glyph false d == 32) ≡ true
digit_free d few =
    ap (λ (t : Bool). not (cond t (48 + d) (87 + d) == 32)) (lt-ltb d 10 few) ∙ ap not (is_false (48 + d == 32) (λ same. far d (eqb-true (48 + d) 32 same)))

ten : 0 < 10
ten = omega arith

digits_free : (k n : ℕ) (acc : List ℕ) → is_free_of 32 acc ≡ true → is_free_of 32 (digits_onto k 10 false n acc) ≡ true
digits_free zero n acc free = free
digits_free (suc k) n acc free = by (n / 10 == 0) (digits_free k (n / 10) (digit_glyph false (n % 10) ∷ acc)) where
  more : is_free_of 32 (digit_glyph false (n % 10) ∷ acc) ≡ true
  more = and_from (not (digit_glyph false (n % 10) == 32)) (is_free_of 32 acc) (digit_free (n % 10) (mod-lt n ten)) free

  by : (t : Bool) → (is_free_of 32 (digit_glyph false (n % 10) ∷ acc) ≡ true → is_free_of 32 (digits_onto k 10 false (n / 10) (digit_glyph false (n % 10) ∷ acc)) ≡ true)
      → is_free_of 32 (if t then digit_glyph false (n % 10) ∷ acc else digits_onto k 10 false (n / 10) (digit_glyph false (n % 10) ∷ acc)) ≡ true
  by true rest = more
  by false rest = rest more

decimal_spaceless : (n : ℕ) → is_free_of 32 (decimal n) ≡ true
unfolding digits
decimal_spaceless n = digits_free 64 n [] refl

-- How many spaces a text has.
abbrev spaces : List ℕ → ℕ
spaces [] = 0
spaces (b ∷ bs) = cond (b == 32) 1 0 + spaces bs

nothing_first : (n : ℕ) → 0 + n ≡ n
nothing_first n = omega arith

one_first : (n : ℕ) → 1 + n ≡ 0 → ⊥
one_first n h = absurd (omega (arith, h))

one_between : (n k : ℕ) → n ≡ k → 0 + (1 + n) ≡ suc k
one_between n k is = omega (arith, is)

sums : (a b c : ℕ) → a + (b + c) ≡ (a + b) + c
sums a b c = omega arith

spaces_joined : (xs ys : List ℕ) → spaces (xs ++ ys) ≡ spaces xs + spaces ys
spaces_joined [] ys = sym (nothing_first (spaces ys))
spaces_joined (x ∷ xs) ys = ap (λ n. cond (x == 32) 1 0 + n) (spaces_joined xs ys) ∙ sums (cond (x == 32) 1 0) (spaces xs) (spaces ys)

no_spaces : (xs : List ℕ) → is_free_of 32 xs ≡ true → spaces xs ≡ 0
no_spaces [] free = refl
no_spaces (x ∷ xs) free =
    let both = and_true (not (x == 32)) (is_free_of 32 xs) free in
    ap (λ (t : Bool). cond t 1 0 + spaces xs) (not-true (x == 32) both.0) ∙ nothing_first (spaces xs) ∙ no_spaces xs both.1

free_without : (xs : List ℕ) → spaces xs ≡ 0 → is_free_of 32 xs ≡ true
free_without [] none = refl
free_without (x ∷ xs) none = by (x == 32) none (free_without xs) where
  by : (t : Bool) → cond t 1 0 + spaces xs ≡ 0 → (spaces xs ≡ 0 → is_free_of 32 xs ≡ true) → (not t && is_free_of 32 xs) ≡ true
  by true h rest = absurd (one_first (spaces xs) h)
  by false h rest = rest (sym (nothing_first (spaces xs)) ∙ h)

-- One space between words.
spaces_between : (w rest : List ℕ) (k : ℕ) → is_free_of 32 w ≡ true → spaces rest ≡ k → spaces (w ++ 32 ∷ rest) ≡ suc k
spaces_between w rest k free is =
    spaces_joined w (32 ∷ rest) ∙ ap (λ n. n + spaces (32 ∷ rest)) (no_spaces w free) ∙ one_between (spaces rest) k is

abbrev AreFree : List (List ℕ) → Type 0
AreFree [] = Unit {0}
AreFree (w ∷ ws) = (is_free_of 32 w ≡ true) × AreFree ws

-- How many words, as a number.
abbrev many : List (List ℕ) → ℕ
many [] = 0
many (w ∷ ws) = suc (many ws)

spaces_spaced : (w : List ℕ) (ws : List (List ℕ)) → AreFree (w ∷ ws) → spaces (spaced (w ∷ ws)) ≡ many ws
spaces_spaced w [] free = no_spaces w free.0
spaces_spaced w (v ∷ ws) free = spaces_between w (spaced (v ∷ ws)) (many ws) free.0 (spaces_spaced v ws free.1)

abbrev ending : List ℕ
ending = codes "end"

abbrev words_behind : Counts → List (List ℕ)
words_behind k =
    codes "events" ∷ decimal k.events ∷ codes "calls" ∷ decimal k.calls ∷ codes "grants" ∷ decimal k.grants ∷ codes "refusals" ∷ decimal k.refusals
    ∷ codes "conflicts" ∷ decimal k.conflicts ∷ []

abbrev behind : Counts → List ℕ
behind k = spaced (words_behind k)

all_free : (k : Counts) → AreFree (ending ∷ words_behind k)
all_free k = (
  refl,
  (
    refl,
    (
      decimal_spaceless k.events,
      (
        refl,
        (
          decimal_spaceless k.calls,
          (
            refl,
            (
              decimal_spaceless k.grants,
              (
                refl,
                (
                  decimal_spaceless k.refusals,
                  (refl, (decimal_spaceless k.conflicts, tt)),
                ),
              ),
            ),
          ),
        ),
      ),
    ),
  ),
)

spaces_of_end : (k : Counts) → spaces (end_line k) ≡ 10
spaces_of_end k = spaces_spaced ending (words_behind k) (all_free k)

none_before : (n : ℕ) → 10 ≡ n + 10 → n ≡ 0
none_before n h = omega (arith, h)

free_with_end : (x : List ℕ) → is_free_of 32 x ≡ true → is_free_of 32 (x ++ ending) ≡ true
free_with_end [] free = refl
free_with_end (b ∷ x) free =
    let both = and_true (not (b == 32)) (is_free_of 32 x) free in and_from (not (b == 32)) (is_free_of 32 (x ++ ending)) both.0 (free_with_end x both.1)

-- Nothing stands before the one last line in another.
no_front : (x : List ℕ) (j k : Counts) → end_line j ≡ x ++ end_line k → x ≡ []
no_front x j k is =
    let free : is_free_of 32 x ≡ true = free_without x (none_before (spaces x) (sym (spaces_of_end j) ∙ ap spaces is ∙ spaces_joined x (end_line k) ∙ ap (λ n. spaces x + n) (spaces_of_end k))) in
    let there : x ++ end_line k ≡ (x ++ ending) ++ 32 ∷ behind k = sym (append_assoc x ending (32 ∷ behind k)) in
    let cut : ending ∷ pieces 32 (behind j) ≡ (x ++ ending) ∷ pieces 32 (behind k) =
    sym (pieces-front 32 ending (behind j) refl) ∙ ap (pieces 32) (is ∙ there) ∙ pieces-front 32 (x ++ ending) (behind k) (free_with_end x free) in
    sym (append_cancel_right [] x ending (head_is ending (x ++ ending) (pieces 32 (behind j)) (pieces 32 (behind k)) cut))

bytes_joined : (xs ys : List (List ℕ)) → as_bytes (xs ++ ys) ≡ as_bytes xs ++ as_bytes ys
bytes_joined [] ys = refl
bytes_joined (x ∷ xs) ys = ap (λ zs. (x ++ 10 ∷ []) ++ zs) (bytes_joined xs ys) ∙ sym (append_assoc (x ++ 10 ∷ []) (as_bytes xs) (as_bytes ys))

one_line : (a l : List ℕ) → a ++ as_bytes (l ∷ []) ≡ (a ++ l) ++ 10 ∷ []
one_line a l = ap (λ (bs : List ℕ). a ++ bs) (append-nil (l ++ 10 ∷ [])) ∙ sym (append_assoc a l (10 ∷ []))

less_or : (a b : ℕ) → (a ≤ b) ⊎ (b ≤ a)
less_or a b = by (nat_le a b) refl where
  by : (t : Bool) → nat_le a b ≡ t → (a ≤ b) ⊎ (b ≤ a)
  by true is = inl (grind (arith, nat_tests, is))
  by false is = inr (grind (arith, nat_tests, is))

same_front : (a b : List ℕ) (j k : Counts) → a ++ end_line j ≡ b ++ end_line k → a ≡ b
same_front a b j k is = by (less_or (length (end_line k)) (length (end_line j))) where
  by : (length (end_line k) ≤ length (end_line j)) ⊎ (length (end_line j) ≤ length (end_line k)) → a ≡ b
  by (inl less) =
      let mid = ends a (end_line j) b (end_line k) is less in
      let same : end_line j ≡ end_line k = mid.1 ∙ ap (λ (x : List ℕ). x ++ end_line k) (no_front mid.0 j k mid.1) in
      append_cancel_right a b (end_line k) (ap (λ (x : List ℕ). a ++ x) (sym same) ∙ is)
  by (inr less) =
      let mid = ends b (end_line k) a (end_line j) (sym is) less in
      let same : end_line k ≡ end_line j = mid.1 ∙ ap (λ (x : List ℕ). x ++ end_line j) (no_front mid.0 k j mid.1) in
      append_cancel_right a b (end_line j) (is ∙ ap (λ (x : List ℕ). b ++ x) same)

-- What stands before the last line of two texts that are one.
pub before_end : (a b : List ℕ) (j k : Counts) → a ++ as_bytes (end_line j ∷ []) ≡ b ++ as_bytes (end_line k ∷ []) → a ≡ b
before_end a b j k is =
    same_front a b j k (append_cancel_right (a ++ end_line j) (b ++ end_line k) (10 ∷ []) (sym (one_line a (end_line j)) ∙ is ∙ one_line b (end_line k)))

pub lines_before_end : (a : List ℕ) (ls : List (List ℕ)) (j k : Counts) → a ++ as_bytes (end_line j ∷ []) ≡ as_bytes (ls ++ end_line k ∷ []) → a ≡ as_bytes ls
lines_before_end a ls j k is = before_end a (as_bytes ls) j k (is ∙ bytes_joined ls (end_line k ∷ []))
