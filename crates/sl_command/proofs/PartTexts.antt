-- Parts of words and the texts of their values: a number, a lockspace and a resource each have one word.
use Rattle.sl_area.specs.AreaSizes.{Layout}
use Rattle.sl_area.specs.AreaLayout.{is_base}
use Rattle.sl_text.proofs.FreeLaws.{decimal_free, name_free, path_free}
use Rattle.sl_text.proofs.NumberLaws.{decimal-number_of, is_number_text-decimal, number_of-decimal}
use Rattle.sl_text.proofs.PieceLaws.{join_with_byte-pieces, pieces-join_with_byte}
use Rattle.sl_text.specs.Forms.{coloned, is_free_of, pieces, word_at}
use Rattle.sl_text.specs.Names.{is_name, is_name_byte, is_path}
use Rattle.sl_text.specs.Numbers.{is_number_that, number_of}
use Rattle.sl_trace.specs.CommandForms.{IsLockspaceArg, IsResourceArg, asked_of_word, is_asked_word, is_lockspace_word, is_resource_front, is_resource_word, is_shared_word, lockspace_of_word, lockspace_word, moded_word, resource_of_word, resource_parts}
use Rattle.sl_trace.specs.declared.command.LockspaceArg.{LockspaceArg}
use Rattle.sl_trace.specs.declared.command.ResourceArg.{ResourceArg}
use Rattle.sl_words.proofs.WordLaws.{and_true}
use Rattle.std.proofs.Common.{Bool, List, [], ap, arith, eqb, false, leb, length, ltb, refl, sym, true, ℕ, ◌%◌, ◌&&◌, ◌++◌, ◌<◌, ◌^◌, ◌≡◌, ◌∙◌, ◌∷◌, ◌≤◌, ◌||◌}
use Rattle.std.proofs.lemmas.Bool.{and_from, eqb-true, leb-true, ltb-true, not_from_false}
use Rattle.std.proofs.lemmas.List.Folds.{list_all-append}
use Rattle.std.proofs.lemmas.Slice.Eq.{bytes_eq-Decides}
use Rattle.std.specs.Char.{is_ascii_digit}
use Rattle.std.specs.Int.{is_in_range}
use Rattle.std.specs.List.{join_with_byte, list_all}
use Rattle.std.specs.Prelude.{bytes_eq, codes, decimal, not}

-- ---- numbers

-- A number that passes is written as a word that passes, and read as itself.
pub number_written : (p : ℕ → Bool) (n : ℕ) → n < 2 ^ 64 → p n ≡ true → is_number_that p (decimal n) ≡ true
number_written p n small h = and_from _ _ (is_number_text-decimal n small) (ap p (number_of-decimal n small) ∙ h)

-- A word that passes is its number's word.
pub number_read : (p : ℕ → Bool) (w : List ℕ) → is_number_that p w ≡ true → number_of w < 2 ^ 64 → (p (number_of w) ≡ true) × (decimal (number_of w) ≡ w)
number_read p w h small = let parts = and_true _ _ h in (parts.1, decimal-number_of w parts.0 small)

-- Bases, ids and such stay below 2^64.
pub base_small : (g : Layout) (n : ℕ) → is_base g n ≡ true → n < 2 ^ 64
base_small g n h = let below : n < 10 ^ 12 = ltb-true n (10 ^ 12) (and_true (eqb (n % g.area) 0) (ltb n (10 ^ 12)) h).1 in omega (arith, below)

pub range_small : (low high n : ℕ) → high < 2 ^ 64 → is_in_range low high n ≡ true → n < 2 ^ 64
range_small low high n small h = let most : n ≤ high = leb-true n high (and_true (leb low n) (leb n high) h).1 in omega (arith, most)

-- ---- parts

-- Four parts, and five.
four_parts : (ps : List (List ℕ)) → length ps ≡ 4 → ps ≡ word_at ps 0 ∷ word_at ps 1 ∷ word_at ps 2 ∷ word_at ps 3 ∷ []
four_parts [] h = absurd (omega arith)
four_parts (a ∷ []) h = absurd (omega arith)
four_parts (a ∷ b ∷ []) h = absurd (omega arith)
four_parts (a ∷ b ∷ c ∷ []) h = absurd (omega arith)
four_parts (a ∷ b ∷ c ∷ d ∷ []) h = refl
four_parts (a ∷ b ∷ c ∷ d ∷ e ∷ ps) h = absurd (omega arith)

five_parts : (ps : List (List ℕ)) → length ps ≡ 5 → ps ≡ word_at ps 0 ∷ word_at ps 1 ∷ word_at ps 2 ∷ word_at ps 3 ∷ word_at ps 4 ∷ []
five_parts [] h = absurd (omega arith)
five_parts (a ∷ []) h = absurd (omega arith)
five_parts (a ∷ b ∷ []) h = absurd (omega arith)
five_parts (a ∷ b ∷ c ∷ []) h = absurd (omega arith)
five_parts (a ∷ b ∷ c ∷ d ∷ []) h = absurd (omega arith)
five_parts (a ∷ b ∷ c ∷ d ∷ e ∷ []) h = refl
five_parts (a ∷ b ∷ c ∷ d ∷ e ∷ f ∷ ps) h = absurd (omega arith)

-- A word of such parts.
four_joined : (w : List ℕ) → length (pieces 58 w) ≡ 4
    → coloned (word_at (pieces 58 w) 0 ∷ word_at (pieces 58 w) 1 ∷ word_at (pieces 58 w) 2 ∷ word_at (pieces 58 w) 3 ∷ []) ≡ w
four_joined w h = ap coloned (sym (four_parts (pieces 58 w) h)) ∙ join_with_byte-pieces 58 w

five_joined : (w : List ℕ) → length (pieces 58 w) ≡ 5
    → coloned (word_at (pieces 58 w) 0 ∷ word_at (pieces 58 w) 1 ∷ word_at (pieces 58 w) 2 ∷ word_at (pieces 58 w) 3 ∷ word_at (pieces 58 w) 4 ∷ []) ≡ w
five_joined w h = ap coloned (sym (five_parts (pieces 58 w) h)) ∙ join_with_byte-pieces 58 w

-- ---- lockspaces

-- A lockspace's word names what a command may name, and is that lockspace's word.
pub lockspace_read : (g : Layout) (w : List ℕ) → g.hosts < 2 ^ 64 → is_lockspace_word g w ≡ true
    → IsLockspaceArg g (lockspace_of_word w) × (lockspace_word (lockspace_of_word w) ≡ w)
lockspace_read g w few h =
    let ps : List (List ℕ) = pieces 58 w in
    let a = and_true _ _ h in
    let b = and_true _ _ a.0 in
    let c = and_true _ _ b.0 in
    let d = and_true _ _ c.0 in
    let id_small = range_small 1 g.hosts (number_of (word_at ps 1)) few (and_true _ _ c.1).1 in
    let id = number_read (is_in_range 1 g.hosts) (word_at ps 1) c.1 id_small in
    let base_fits = base_small g (number_of (word_at ps 3)) (and_true _ _ a.1).1 in
    let base = number_read (is_base g) (word_at ps 3) a.1 base_fits in (
      record { name = d.1; host = id.0; disk = b.1; base = base.0 },
      ap (λ v. coloned (word_at ps 0 ∷ v ∷ word_at ps 2 ∷ decimal (number_of (word_at ps 3)) ∷ [])) id.1
          ∙ ap (λ v. coloned (word_at ps 0 ∷ word_at ps 1 ∷ word_at ps 2 ∷ v ∷ [])) base.1 ∙ four_joined w (eqb-true _ _ d.0),
    )

-- The parts of a lockspace's word.
abbrev lockspace_parts : LockspaceArg → List (List ℕ)
lockspace_parts a = a.name ∷ decimal a.id ∷ a.path ∷ decimal a.offset ∷ []

-- A text that is joined of parts without a byte, by another byte, is without it.
pub joined_free : (c d : ℕ) (ws : List (List ℕ)) → eqb d c ≡ false → list_all (is_free_of c) ws ≡ true → is_free_of c (join_with_byte d ws) ≡ true
joined_free c d [] other free = refl
joined_free c d (w ∷ []) other free = (and_true (is_free_of c w) true free).0
joined_free c d (w ∷ v ∷ vs) other free =
    let parts = and_true (is_free_of c w) (list_all (is_free_of c) (v ∷ vs)) free in
    list_all-append (λ b. not (eqb b c)) w (d ∷ join_with_byte d (v ∷ vs))
    ∙ and_from _ _ parts.0 (and_from _ _ (not_from_false _ other) (joined_free c d (v ∷ vs) other parts.1))

-- All parts of a lockspace's word are without a byte that no part may have.
lockspace_free : (c : ℕ) (g : Layout) (a : LockspaceArg) → g.hosts < 2 ^ 64 → IsLockspaceArg g a → is_name_byte c ≡ false → (is_name_byte c || eqb c 47) ≡ false → is_ascii_digit c ≡ false
    → list_all (is_free_of c) (lockspace_parts a) ≡ true
lockspace_free c g a few is name path digit =
    and_from _ _ (name_free c a.name name is.name) (and_from _ _ (decimal_free c a.id digit (range_small 1 g.hosts a.id few is.host))
    (and_from _ _ (path_free c a.path path is.disk) (and_from _ _ (decimal_free c a.offset digit (base_small g a.offset is.base)) refl)))

-- Its parts are cut where they were joined.
lockspace_cut : (g : Layout) (a : LockspaceArg) → g.hosts < 2 ^ 64 → IsLockspaceArg g a → pieces 58 (lockspace_word a) ≡ lockspace_parts a
lockspace_cut g a few is = pieces-join_with_byte 58 (lockspace_parts a) (lockspace_free 58 g a few is refl refl refl) (omega arith)

-- What a lockspace's word says, by its parts.
lockspace_by_parts : (g : Layout) (w n i p o : List ℕ) → pieces 58 w ≡ n ∷ i ∷ p ∷ o ∷ [] → is_name n ≡ true → is_number_that (is_in_range 1 g.hosts) i ≡ true
    → is_path p ≡ true → is_number_that (is_base g) o ≡ true → is_lockspace_word g w ≡ true
lockspace_by_parts g w n i p o cut name id path base = rw cut (and_from _ _ (and_from _ _ (and_from _ _ name id) path) base)

lockspace_of_parts : (w n i p o : List ℕ) → pieces 58 w ≡ n ∷ i ∷ p ∷ o ∷ [] → lockspace_of_word w ≡ record { name = n; id = number_of i; path = p; offset = number_of o }
lockspace_of_parts w n i p o cut = rw cut refl

-- A lockspace that a command may name has a word, which is read as that lockspace.
pub lockspace_written : (g : Layout) (a : LockspaceArg) → g.hosts < 2 ^ 64 → IsLockspaceArg g a
    → (is_lockspace_word g (lockspace_word a) ≡ true) × (lockspace_of_word (lockspace_word a) ≡ a) × (is_free_of 32 (lockspace_word a) ≡ true)
lockspace_written g a few is =
    let cut = lockspace_cut g a few is in
    let id_small = range_small 1 g.hosts a.id few is.host in
    let base_fits = base_small g a.offset is.base in (
      lockspace_by_parts g (lockspace_word a) a.name (decimal a.id) a.path (decimal a.offset) cut is.name (number_written (is_in_range 1 g.hosts) a.id id_small is.host) is.disk
          (number_written (is_base g) a.offset base_fits is.base),
      lockspace_of_parts (lockspace_word a) a.name (decimal a.id) a.path (decimal a.offset) cut
          ∙ ap (λ i. record { name = a.name; id = i; path = a.path; offset = number_of (decimal a.offset) }) (number_of-decimal a.id id_small)
          ∙ ap (λ o. record { name = a.name; id = a.id; path = a.path; offset = o }) (number_of-decimal a.offset base_fits),
      joined_free 32 58 (lockspace_parts a) refl (lockspace_free 32 g a few is refl refl refl),
    )

-- ---- resources

-- The four parts of a resource's word.
resource_front_read : (g : Layout) (ps : List (List ℕ)) → is_resource_front g ps ≡ true
    → let r : ResourceArg = record { lockspace = word_at ps 0; name = word_at ps 1; path = word_at ps 2; offset = number_of (word_at ps 3) } in
    IsResourceArg g r × (decimal r.offset ≡ word_at ps 3)
resource_front_read g ps h =
    let a = and_true _ _ h in
    let b = and_true _ _ a.0 in
    let c = and_true _ _ b.0 in
    let base = number_read (is_base g) (word_at ps 3) a.1 (base_small g (number_of (word_at ps 3)) (and_true _ _ a.1).1) in
    (record { space = c.0; named = c.1; disk = b.1; base = base.0 }, base.1)

-- A resource's word names what a command may name, and is that resource's word.
pub resource_read : (g : Layout) (w : List ℕ) → is_resource_word g w ≡ true → IsResourceArg g (resource_of_word w) × (moded_word (resource_of_word w) false ≡ w)
resource_read g w h =
    let ps : List (List ℕ) = pieces 58 w in
    let parts = and_true _ _ h in
    let front = resource_front_read g ps parts.1 in
    (front.0, ap (λ v. coloned (word_at ps 0 ∷ word_at ps 1 ∷ word_at ps 2 ∷ v ∷ [])) front.1 ∙ four_joined w (eqb-true _ _ parts.0))

pub shared_read : (g : Layout) (w : List ℕ) → is_shared_word g w ≡ true → IsResourceArg g (resource_of_word w) × (moded_word (resource_of_word w) true ≡ w)
shared_read g w h =
    let ps : List (List ℕ) = pieces 58 w in
    let parts = and_true _ _ h in
    let inner = and_true _ _ parts.0 in
    let front = resource_front_read g ps inner.1 in
    let mark = (bytes_eq-Decides (word_at ps 4) (codes "SH")).0 parts.1 in (
      front.0,
      ap (λ v. coloned (word_at ps 0 ∷ word_at ps 1 ∷ word_at ps 2 ∷ v ∷ codes "SH" ∷ [])) front.1
          ∙ ap (λ v. coloned (word_at ps 0 ∷ word_at ps 1 ∷ word_at ps 2 ∷ word_at ps 3 ∷ v ∷ [])) (sym mark) ∙ five_joined w (eqb-true _ _ inner.0),
    )

pub asked_read : (p : ℕ → Bool) (g : Layout) (w : List ℕ) → is_asked_word p g w ≡ true → asked_of_word w < 2 ^ 64
    → IsResourceArg g (resource_of_word w) × (p (asked_of_word w) ≡ true) × (coloned (resource_parts (resource_of_word w) ++ decimal (asked_of_word w) ∷ []) ≡ w)
asked_read p g w h small =
    let ps : List (List ℕ) = pieces 58 w in
    let parts = and_true _ _ h in
    let inner = and_true _ _ parts.0 in
    let front = resource_front_read g ps inner.1 in
    let lver = number_read p (word_at ps 4) parts.1 small in (
      front.0,
      lver.0,
      ap (λ v. coloned (word_at ps 0 ∷ word_at ps 1 ∷ word_at ps 2 ∷ v ∷ decimal (asked_of_word w) ∷ [])) front.1
          ∙ ap (λ v. coloned (word_at ps 0 ∷ word_at ps 1 ∷ word_at ps 2 ∷ word_at ps 3 ∷ v ∷ [])) lver.1 ∙ five_joined w (eqb-true _ _ inner.0),
    )

-- All parts of a resource's word are without a byte that no part may have.
resource_free : (c : ℕ) (g : Layout) (r : ResourceArg) → IsResourceArg g r → is_name_byte c ≡ false → (is_name_byte c || eqb c 47) ≡ false → is_ascii_digit c ≡ false
    → list_all (is_free_of c) (resource_parts r) ≡ true
resource_free c g r is name path digit =
    and_from _ _ (name_free c r.lockspace name is.space) (and_from _ _ (name_free c r.name name is.named)
    (and_from _ _ (path_free c r.path path is.disk) (and_from _ _ (decimal_free c r.offset digit (base_small g r.offset is.base)) refl)))

-- .. nor one more part, if it is without it.
longer_free : (c : ℕ) (g : Layout) (r : ResourceArg) (more : List (List ℕ)) → IsResourceArg g r → list_all (is_free_of c) more ≡ true
    → is_name_byte c ≡ false → (is_name_byte c || eqb c 47) ≡ false → is_ascii_digit c ≡ false → list_all (is_free_of c) (resource_parts r ++ more) ≡ true
longer_free c g r more is free name path digit = list_all-append (is_free_of c) (resource_parts r) more ∙ and_from _ _ (resource_free c g r is name path digit) free

-- The parts of a resource's word pass.
front_written : (g : Layout) (r : ResourceArg) (more : List (List ℕ)) → IsResourceArg g r → is_resource_front g (resource_parts r ++ more) ≡ true
front_written g r more is =
    and_from _ _ (and_from _ _ (and_from _ _ is.space is.named) is.disk) (number_written (is_base g) r.offset (base_small g r.offset is.base) is.base)

-- The resource that is read of them.
front_of_parts : (g : Layout) (w : List ℕ) (r : ResourceArg) (more : List (List ℕ)) → IsResourceArg g r → pieces 58 w ≡ resource_parts r ++ more → resource_of_word w ≡ r
front_of_parts g w r more is cut =
    rw cut (ap (λ o. record { lockspace = r.lockspace; name = r.name; path = r.path; offset = o }) (number_of-decimal r.offset (base_small g r.offset is.base)))

-- The parts are cut where they were joined.
resource_cut : (g : Layout) (r : ResourceArg) (more : List (List ℕ)) → IsResourceArg g r → list_all (is_free_of 58) more ≡ true
    → pieces 58 (coloned (resource_parts r ++ more)) ≡ resource_parts r ++ more
resource_cut g r more is free = pieces-join_with_byte 58 (resource_parts r ++ more) (longer_free 58 g r more is free refl refl refl) (omega arith)

-- No space stands in such a word.
resource_spaceless : (g : Layout) (r : ResourceArg) (more : List (List ℕ)) → IsResourceArg g r → list_all (is_free_of 32) more ≡ true
    → is_free_of 32 (coloned (resource_parts r ++ more)) ≡ true
resource_spaceless g r more is free = joined_free 32 58 (resource_parts r ++ more) refl (longer_free 32 g r more is free refl refl refl)

-- A resource that a command may name has a word, which is read as that resource.
pub resource_written : (g : Layout) (r : ResourceArg) → IsResourceArg g r
    → (is_resource_word g (moded_word r false) ≡ true) × (resource_of_word (moded_word r false) ≡ r) × (is_free_of 32 (moded_word r false) ≡ true)
resource_written g r is =
    let cut = resource_cut g r [] is refl in (
      ap (λ (ps : List (List ℕ)). eqb (length ps) 4 && is_resource_front g ps) cut ∙ front_written g r [] is,
      front_of_parts g (moded_word r false) r [] is cut,
      resource_spaceless g r [] is refl,
    )

pub shared_written : (g : Layout) (r : ResourceArg) → IsResourceArg g r
    → (is_shared_word g (moded_word r true) ≡ true) × (resource_of_word (moded_word r true) ≡ r) × (is_free_of 32 (moded_word r true) ≡ true)
shared_written g r is =
    let mark : List (List ℕ) = codes "SH" ∷ [] in
    let cut = resource_cut g r mark is refl in (
      ap (λ (ps : List (List ℕ)). eqb (length ps) 5 && is_resource_front g ps && bytes_eq (word_at ps 4) (codes "SH")) cut
          ∙ and_from (is_resource_front g (resource_parts r ++ mark)) true (front_written g r mark is) refl,
      front_of_parts g (moded_word r true) r mark is cut,
      resource_spaceless g r mark is refl,
    )

pub asked_written : (p : ℕ → Bool) (g : Layout) (r : ResourceArg) (lver : ℕ) → IsResourceArg g r → lver < 2 ^ 64 → p lver ≡ true
    → let w : List ℕ = coloned (resource_parts r ++ decimal lver ∷ []) in
    (is_asked_word p g w ≡ true) × (resource_of_word w ≡ r) × (asked_of_word w ≡ lver) × (is_free_of 32 w ≡ true)
asked_written p g r lver is small passes =
    let more : List (List ℕ) = decimal lver ∷ [] in
    let w : List ℕ = coloned (resource_parts r ++ more) in
    let cut = resource_cut g r more is (and_from _ _ (decimal_free 58 lver refl small) refl) in (
      ap (λ (ps : List (List ℕ)). eqb (length ps) 5 && is_resource_front g ps && is_number_that p (word_at ps 4)) cut
          ∙ and_from (is_resource_front g (resource_parts r ++ more)) (is_number_that p (decimal lver)) (front_written g r more is) (number_written p lver small passes),
      front_of_parts g w r more is cut,
      ap (λ (ps : List (List ℕ)). number_of (word_at ps 4)) cut ∙ number_of-decimal lver small,
      resource_spaceless g r more is (and_from _ _ (decimal_free 32 lver refl small) refl),
    )
