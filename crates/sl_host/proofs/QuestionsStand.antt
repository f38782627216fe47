-- What a table finds is what the definitions ask for.
use Rattle.sl_host_law.specs.Decisions.CommandDecisions.{is_open_on}
use Rattle.std.specs.Prelude.{bytes_eq, nat_le, nat_lt, ◌%◌, ◌*◌, ◌+◌, ◌-◌, ◌/◌, ◌<◌, ◌≤◌, Bool, List, None, Option, Some, [], cond, false, filter, find, is_some, map, not, true, ℕ, ◌&&◌, ◌==◌, ◌∷◌, ◌≡◌, ◌||◌}
use Rattle.std.specs.Cmp.Lexicographic.{nat_list_eq_equiv}
use Rattle.sl_tables.specs.Opens.{is_on_area, least_on}
use Rattle.sl_host_state.specs.declared.kept_parts.OpenCall.{OpenCall}
use Rattle.sl_area.specs.AreaSizes.{Layout, Sizes, layout_of}
use Rattle.std.proofs.lemmas.Bool.{cases_lt, le-leb, leb-true, lt-ltb}
use Rattle.std.proofs.lemmas.Bool.Decides.{Decides-eqb, Decides-ltb}
use Rattle.sl_words.proofs.WordLaws.{and_true}
use Rattle.std.proofs.Math.Nat.{div-add-mod, mul-le-mul_left}
use Rattle.std.proofs.Common.{arith, inl, inr, mod-lt, subst, sym, true≢false, ap, refl, ◌∙◌}
use Rattle.sl_tables.specs.Children.{child_of}
use Rattle.sl_tables.specs.Holdings.{fits, least_holder}
use Rattle.sl_tables.specs.declared.children.ChildState.{ChildState}
use Rattle.sl_tables.specs.declared.holdings.Holder.TheVariants.{Anyone, Is, IsNot}
use Rattle.sl_trace.specs.Traces.{Child, is_orphan, is_shared, same_place}
use Rattle.sl_trace.specs.declared.effects.Grant.{Grant}
use Rattle.sl_trace.specs.declared.effects.Mode.TheVariants.{Exclusive}
use Rattle.sl_trace.specs.declared.effects.Spot.{Spot}
use Rattle.sl_host.specs.BookQuestions.{held_under}
use Rattle.sl_words.specs.Words.{choose, least, some_is}
use Rattle.std.specs.List.{list_any}

-- ---- children

running : (s e : Bool) → (s && not e) ≡ (some_is (λ ok. ok) (choose s true) && not e)
running true e = refl
running false e = refl

pub runs : (c : ChildState) (o : Option Child) → Some (child_of c) ≡ o → (c.started && not c.exited) ≡ some_is (λ (k : Child). some_is (λ ok. ok) k.answer && not k.exited) o
runs c o is = running c.started c.exited ∙ ap (λ r. some_is (λ (k : Child). some_is (λ ok. ok) k.answer && not k.exited) r) is

pub runs_not : (o : Option Child) → None ≡ o → false ≡ some_is (λ (k : Child). some_is (λ ok. ok) k.answer && not k.exited) o
runs_not o is = ap (λ r. some_is (λ (k : Child). some_is (λ ok. ok) k.answer && not k.exited) r) is

-- ---- one test after another

module _ {A : Type 0} (t q p : A → Bool) (both : (x : A) → t x ≡ (q x && p x)) where
  pub filter_found : (xs : List A) → filter t xs ≡ filter p (filter q xs)
  filter_found [] = refl
  filter_found (x ∷ xs) =
      ap (λ b. cond b (x ∷ filter t xs) (filter t xs)) (both x) ∙ (ap (λ ys. cond (q x && p x) (x ∷ ys) ys) (filter_found xs) ∙ by (q x))
    where
      by : (b : Bool) → cond (b && p x) (x ∷ filter p (filter q xs)) (filter p (filter q xs)) ≡ filter p (cond b (x ∷ filter q xs) (filter q xs))
      by true = refl
      by false = refl

  pub find_found : (xs : List A) → find t xs ≡ find p (filter q xs)
  find_found [] = refl
  find_found (x ∷ xs) =
      ap (λ b. cond b (Some x) (find t xs)) (both x) ∙ (ap (λ o. cond (q x && p x) (Some x) o) (find_found xs) ∙ by (q x))
    where
      by : (b : Bool) → cond (b && p x) (Some x) (find p (filter q xs)) ≡ find p (cond b (x ∷ filter q xs) (filter q xs))
      by true = refl
      by false = refl

  pub any_found : (xs : List A) → is_some (find t xs) ≡ list_any p (filter q xs)
  any_found xs = ap is_some (find_found xs) ∙ any_is (filter q xs)
    where
      any_is : (ys : List A) → is_some (find p ys) ≡ list_any p ys
      any_is [] = refl
      any_is (y ∷ ys) = by (p y) (any_is ys)
        where
          by : (b : Bool) → is_some (find p ys) ≡ list_any p ys → is_some (cond b (Some y) (find p ys)) ≡ (b || list_any p ys)
          by true rest = refl
          by false rest = rest

-- ---- holdings on an area

abbrev here : Spot → Grant → Bool
here at g = same_place g.path g.offset at.path at.base

alike : (a d : Bool) → (((a && true) && true) && d) ≡ (d && a)
alike true true = refl
alike true false = refl
alike false true = refl
alike false false = refl

so_there : (c d : Bool) → (((true && true) && c) && d) ≡ (d && c)
so_there true true = refl
so_there true false = refl
so_there false true = refl
so_there false false = refl

under_is : (a b : Bool) → (((a && b) && true) && true) ≡ (b && a)
under_is true true = refl
under_is true false = refl
under_is false true = refl
under_is false false = refl

pub holds_at : (at : Spot) (p : ℕ) (held : List Grant)
    → is_some (find (fits (record { holder = Is p; session = None; spot = Some at; mode = None })) held) ≡ list_any (λ g. g.process == p) (filter (here at) held)
holds_at at p held =
    any_found (fits (record { holder = Is p; session = None; spot = Some at; mode = None })) (here at) (λ g. g.process == p) (λ g. alike (g.process == p) (here at g)) held

pub others_at : (at : Spot) (p : ℕ) (held : List Grant)
    → least_holder (record { holder = IsNot p; session = None; spot = Some at; mode = None }) held ≡ least (map (λ (g : Grant). g.process) (filter (λ g. not (g.process == p)) (filter (here at) held)))
others_at at p held =
    ap (λ (gs : List Grant). least (map (λ (g : Grant). g.process) gs))
    (filter_found (fits (record { holder = IsNot p; session = None; spot = Some at; mode = None })) (here at) (λ g. not (g.process == p)) (λ g. alike (not (g.process == p)) (here at g)) held)

pub all_conflict : (at : Spot) (held : List Grant)
    → least_holder (record { holder = Anyone; session = None; spot = Some at; mode = None }) held ≡ least (map (λ (g : Grant). g.process) (filter (λ g. not (false && is_shared g.mode)) (filter (here at) held)))
all_conflict at held =
    ap (λ (gs : List Grant). least (map (λ (g : Grant). g.process) gs))
    (filter_found (fits (record { holder = Anyone; session = None; spot = Some at; mode = None })) (here at) (λ g. not (false && is_shared g.mode)) (λ g. so_there true (here at g)) held)

pub exclusive_conflict : (at : Spot) (held : List Grant)
    → least_holder (record { holder = Anyone; session = None; spot = Some at; mode = Some Exclusive }) held
    ≡ least (map (λ (g : Grant). g.process) (filter (λ g. not (true && is_shared g.mode)) (filter (here at) held)))
exclusive_conflict at held =
    ap (λ (gs : List Grant). least (map (λ (g : Grant). g.process) gs))
    (filter_found (fits (record { holder = Anyone; session = None; spot = Some at; mode = Some Exclusive })) (here at) (λ g. not (true && is_shared g.mode)) (λ g. so_there (not (is_shared g.mode)) (here at g)) held)

pub orphans_under : (session : ℕ) (held : List Grant)
    → is_some (find (fits (record { holder = Is 0; session = Some session; spot = None; mode = None })) held) ≡ list_any is_orphan (held_under session held)
orphans_under session held =
    any_found (fits (record { holder = Is 0; session = Some session; spot = None; mode = None })) (λ g. g.session == session) is_orphan (λ g. under_is (g.process == 0) (g.session == session)) held

-- ---- open calls on an area

one_multiple : (size p q r s : ℕ) → r < size → s < size → size * p + r ≡ size * q + s → p ≡ q
one_multiple size p q r s low low' same =
    elim (cases_lt p q) [
      | inl less ↦ absurd (let more : size * (p + 1) ≤ size * q = mul-le-mul_left size (omega (arith, less)) in omega (arith, more, low, low', same))
      | inr up ↦
          elim (cases_lt q p) [
            | inl less ↦ absurd (let more : size * (q + 1) ≤ size * p = mul-le-mul_left size (omega (arith, less)) in omega (arith, more, low, low', same))
            | inr down ↦ omega (arith, up, down)
          ]
    ]

-- What begins at a multiple of a size, and stays within it, begins there.
floor_is : (size base d : ℕ) → base % size ≡ 0 → d < size → base + d - (base + d) % size ≡ base
floor_is size base d whole less =
    let own : size * (base / size) + base % size ≡ base = div-add-mod base size in
    let other : size * ((base + d) / size) + (base + d) % size ≡ base + d = div-add-mod (base + d) size in
    let some : 0 < size = omega (arith, less) in
    let rest : (base + d) % size < size = mod-lt (base + d) some in
    let same : base / size ≡ (base + d) / size = one_multiple size (base / size) ((base + d) / size) d ((base + d) % size) less rest (omega (arith, own, other, whole)) in
    let more : size * (base / size) ≡ size * ((base + d) / size) = ap (λ k. size * k) same in omega (arith, own, other, whole, more)

within_is : (size base o : ℕ) → 0 < size → base % size ≡ 0 → (base == o - o % size) ≡ (nat_le base o && nat_lt o (base + size))
within_is size base o some whole = by (base == o - o % size) (nat_le base o && nat_lt o (base + size)) refl refl
  where
    rest : o % size < size
    rest = mod-lt o some

    by : (b c : Bool) → (base == o - o % size) ≡ b → (nat_le base o && nat_lt o (base + size)) ≡ c → b ≡ c
    by true true is within = refl
    by false false is within = refl
    by true false is within =
        let own : base ≡ o - o % size = (Decides-eqb base (o - o % size)).0 is in
        let le : base ≤ o = omega (arith, own) in
        let lt : o < base + size = let low = rest in omega (arith, own, low) in
        let there : (nat_le base o && nat_lt o (base + size)) ≡ true = ap (λ b. b && nat_lt o (base + size)) (le-leb base o le) ∙ lt-ltb o (base + size) lt in absurd (true≢false (sym there ∙ within))
    by false true is within =
        let parts = and_true (nat_le base o) (nat_lt o (base + size)) within in
        let le = leb-true base o parts.0 in
        let lt = (Decides-ltb o (base + size)).0 parts.1 in
        let sum : base + (o - base) ≡ o = omega (arith, le) in
        let own : base ≡ o - o % size = sym (ap (λ n. n - n % size) (sym sum) ∙ floor_is size base (o - base) whole (omega (arith, le, lt))) in
        absurd (true≢false (sym ((Decides-eqb base (o - o % size)).1 own) ∙ is))

-- A call is on the area down to whose base its offset is rounded.
open_is_on : (g : Layout) (at : Spot) (c : OpenCall) → 0 < g.area → at.base % g.area ≡ 0 → is_on_area g.area at c ≡ is_open_on g at c
open_is_on g at c some whole =
    ap (λ b. b && bytes_eq at.path c.path) (within_is g.area at.base c.offset some whole)
    ∙ (turned_and (nat_le at.base c.offset && nat_lt c.offset (at.base + g.area)) (bytes_eq at.path c.path)
    ∙ ap (λ b. b && (nat_le at.base c.offset && nat_lt c.offset (at.base + g.area))) (nat_list_eq_equiv.symm at.path c.path))
  where
    turned_and : (a b : Bool) → (a && b) ≡ (b && a)
    turned_and true true = refl
    turned_and true false = refl
    turned_and false true = refl
    turned_and false false = refl

pub open_is_least : (g : Layout) (at : Spot) (cs : List OpenCall) → 0 < g.area → at.base % g.area ≡ 0 → least_on g.area at cs ≡ least (map (λ (c : OpenCall). c.number) (filter (is_open_on g at) cs))
open_is_least g at cs some whole = ap (λ (ds : List OpenCall). least (map (λ (c : OpenCall). c.number) ds)) (all cs)
  where
    all : (cs : List OpenCall) → filter (is_on_area g.area at) cs ≡ filter (is_open_on g at) cs
    all [] = refl
    all (c ∷ cs) =
        ap (λ b. cond b (c ∷ filter (is_on_area g.area at) cs) (filter (is_on_area g.area at) cs)) (open_is_on g at c some whole)
        ∙ ap (λ ds. cond (is_open_on g at c) (c ∷ ds) ds) (all cs)

pub pending_is : (z : Sizes) (area : ℕ) (at : Spot) (cs : List OpenCall) → area ≡ z.area → 0 < area → at.base % z.area ≡ 0
    → least_on area at cs ≡ least (map (λ (c : OpenCall). c.number) (filter (is_open_on (layout_of z) at) cs))
pending_is z area at cs is some whole = ap (λ n. least_on n at cs) is ∙ open_is_least (layout_of z) at cs (subst (λ n. 0 < n) is some) whole
