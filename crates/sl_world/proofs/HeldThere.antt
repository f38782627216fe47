-- What is asked of all that the other machines hold is asked of each of them.
use Rattle.sl_world_state.specs.KeptWorld.{KeptState, MachineState, machine_in}
use Rattle.sl_machine.specs.KeptParts.{kept_state}
use Rattle.sl_machine.specs.Machines.{machine_state}
use Rattle.sl_machine.specs.declared.kept_world.Kept.{Kept}
use Rattle.sl_machine.specs.declared.machine.Machine.{Machine}
use Rattle.sl_words.proofs.Lists.{there_is}
use Rattle.sl_report.specs.Reports.{conflicts_after}
use Rattle.sl_run.specs.Conflicts.{Holding, conflicts, has_conflict, holding, lingering_holding}
use Rattle.sl_run.specs.Locks.{Locks}
use Rattle.sl_run.specs.Worlds.{Lingering, lingers}
use Rattle.sl_trace.specs.Traces.{is_shared, same_place}
use Rattle.sl_trace.specs.declared.effects.Grant.{Grant}
use Rattle.sl_words.proofs.CaseLaws.{false_is_true}
use Rattle.sl_words.proofs.Numbers.{number_itself}
use Rattle.sl_world.proofs.FewerConflicts.{IsOfItsMachine, but_cons, but_from, each_from, mapped_on}
use Rattle.sl_world.specs.ConflictCounts.{all_with, any_beside, any_held, any_lingering, conflicts_left, conflicts_with, lingering_in, others_from, uses_before, uses_with}
use Rattle.sl_world_law.proofs.ConflictsAreCounted.{conflicts_of_parts, one_more_conflict}
use Rattle.sl_world_law.specs.ToldEvents.{held_in, holdings_from, lingering_from, others_in}
use Rattle.std.proofs.Common.{append_assoc, ap, ap₂, arith, refl, sym, ◌∙◌}
use Rattle.std.proofs.lemmas.Bool.Decides.{nat_tests}
use Rattle.std.proofs.lemmas.List.{drop_more, map-append, take_more}
use Rattle.std.proofs.lemmas.List.Elements.{filter-append}
use Rattle.std.proofs.lemmas.List.Folds.{list_any-append}
use Rattle.std.proofs.lemmas.Option.{get_or_from_slice_get}
use Rattle.std.specs.List.{enumerate_from, list_any}
use Rattle.std.specs.Option.{option_map_or}
use Rattle.std.specs.Prelude.{Bool, List, Option, Some, cond, false, drop, filter, get_or, if◌then◌else◌, length, map, not, suc, take, true, zero, [], ℕ, ◌&&◌, ◌++◌, ◌+◌, ◌-◌, ◌<◌, ◌==◌, ◌∷◌, ◌≡◌, ◌||◌}

-- ---- lists

any_map : {A B : Type 0} (p : B → Bool) (f : A → B) (xs : List A) → list_any p (map f xs) ≡ list_any (λ x. p (f x)) xs
any_map p f [] = refl
any_map p f (x ∷ xs) = ap (λ b. p (f x) || b) (any_map p f xs)

any_filter : {A : Type 0} (p f : A → Bool) (xs : List A) → list_any p (filter f xs) ≡ list_any (λ x. f x && p x) xs
any_filter p f [] = refl
any_filter p f (x ∷ xs) = taken (f x) ∙ ap (λ b. f x && p x || b) (any_filter p f xs)
  where
    taken : (b : Bool) → list_any p (cond b (x ∷ filter f xs) (filter f xs)) ≡ (b && p x || list_any p (filter f xs))
    taken true = refl
    taken false = refl

any_left : (p : Holding → Bool) (land moment n : ℕ) (ls : List Lingering)
    → list_any p (map (lingering_holding n) (filter (lingers land moment) ls)) ≡ any_lingering p land moment n ls
any_left p land moment n ls =
    any_map p (lingering_holding n) (filter (lingers land moment) ls) ∙ any_filter (λ l. p (lingering_holding n l)) (lingers land moment) ls

any_both : {A : Type 0} (c p q : A → Bool) (xs : List A)
    → (list_any (λ x. c x && p x) xs || list_any (λ x. c x && q x) xs) ≡ list_any (λ x. c x && (p x || q x)) xs
any_both c p q [] = refl
any_both c p q (x ∷ xs) =
    four (c x) (p x) (q x) (list_any (λ y. c y && p y) xs) (list_any (λ y. c y && q y) xs) ∙ ap (λ b. (c x && (p x || q x)) || b) (any_both c p q xs)
  where
    or_true : (b : Bool) → (b || true) ≡ true
    or_true true = refl
    or_true false = refl

    four : (a b d x y : Bool) → ((a && b || x) || (a && d || y)) ≡ ((a && (b || d)) || (x || y))
    four false b d x y = refl
    four true true d x y = refl
    four true false true x y = or_true x
    four true false false x y = refl

-- ---- all uses but those of machine m

-- Of one machine: nothing where it is that one.
one_machine : {A : Type 0} (on : ℕ → A → List Holding) → IsOfItsMachine on → (p : Holding → Bool) (i m : ℕ) (a : A)
    → list_any p (filter (λ (h : Holding). not (h.machine == m)) (on i a)) ≡ (not (i == m) && list_any p (on i a))
one_machine on its p i m a = go (i == m) refl
  where
    go : (b : Bool) → (i == m) ≡ b → list_any p (filter (λ (h : Holding). not (h.machine == m)) (on i a)) ≡ (not b && list_any p (on i a))
    go true is = ap (list_any p) (its.own_go i m a is)
    go false is = ap (list_any p) (its.others_stay i m a is)

-- Of all machines, the first of them with the number behind this place.
any_but : {A : Type 0} (on : ℕ → A → List Holding) → IsOfItsMachine on → (p : Holding → Bool) (i m : ℕ) (xs : List A)
    → list_any p (but_from on (i + 1) m xs) ≡ list_any (λ q. not (q.0 + 1 == m) && list_any p (on (q.0 + 1) q.1)) (enumerate_from i xs)
any_but on its p i m [] = refl
any_but on its p i m (a ∷ xs) =
    ap (list_any p) (but_cons on (i + 1) m a xs)
    ∙ list_any-append p (filter (λ (h : Holding). not (h.machine == m)) (on (i + 1) a)) (but_from on (i + 1 + 1) m xs)
    ∙ ap₂ (λ b c. b || c) (one_machine on its p (i + 1) m a) (any_but on its p (i + 1) m xs)

any_same : {A : Type 0} (p q : A → Bool) (xs : List A) → ((x : A) → p x ≡ q x) → list_any p xs ≡ list_any q xs
any_same p q [] each = refl
any_same p q (x ∷ xs) each = ap₂ (λ a b. a || b) (each x) (any_same p q xs each)

held_from : {L : Type 0} (locks : L → Locks) (i : ℕ) (machines : List (Machine L))
    → holdings_from i (map (machine_state locks) machines) ≡ each_from (λ n (a : Machine L). map (holding n) a.held.items) i machines
unfolding machine_state
held_from locks i [] = refl
held_from locks i (a ∷ machines) = ap (λ hs. map (holding i) a.held.items ++ hs) (held_from locks (i + 1) machines)

left_from : {L : Type 0} (locks : L → Locks) (land moment i : ℕ) (machines : List (Machine L))
    → lingering_from land moment i (map (machine_state locks) machines)
    ≡ each_from (λ n (a : Machine L). map (lingering_holding n) (filter (lingers land moment) a.lingering.items)) i machines
unfolding machine_state
left_from locks land moment i [] = refl
left_from locks land moment i (a ∷ machines) = ap (λ hs. map (lingering_holding i) (filter (lingers land moment) a.lingering.items) ++ hs) (left_from locks land moment (i + 1) machines)

pub others_at : {L : Type 0} (locks : L → Locks) (p : Holding → Bool) (land moment m : ℕ) (machines : List (Machine L))
    → list_any p (others_from land moment m (map (machine_state locks) machines)) ≡ any_beside p land moment m machines
others_at {L} locks p land moment m machines =
    ap (list_any p)
    (filter-append (λ (h : Holding). not (h.machine == m)) (holdings_from 1 (map (machine_state locks) machines)) (lingering_from land moment 1 (map (machine_state locks) machines)))
    ∙ list_any-append p (filter (λ (h : Holding). not (h.machine == m)) (holdings_from 1 (map (machine_state locks) machines)))
    (filter (λ (h : Holding). not (h.machine == m)) (lingering_from land moment 1 (map (machine_state locks) machines)))
    ∙ ap₂ (λ b c. b || c) held left
    ∙ any_both (λ (q : ℕ × Machine L). not (q.0 + 1 == m)) (λ q. any_held p (q.0 + 1) q.1.held.items) (λ q. any_lingering p land moment (q.0 + 1) q.1.lingering.items)
    (enumerate_from 0 machines)
  where
    held : list_any p (filter (λ (h : Holding). not (h.machine == m)) (holdings_from 1 (map (machine_state locks) machines)))
        ≡ list_any (λ (q : ℕ × Machine L). not (q.0 + 1 == m) && any_held p (q.0 + 1) q.1.held.items) (enumerate_from 0 machines)
    held =
        ap (λ hs. list_any p (filter (λ (h : Holding). not (h.machine == m)) hs)) (held_from locks 1 machines)
        ∙ any_but (λ n (a : Machine L). map (holding n) a.held.items) (mapped_on holding (λ (a : Machine L). a.held.items) (λ i g. refl)) p 0 m machines
        ∙ any_same (λ (q : ℕ × Machine L). not (q.0 + 1 == m) && list_any p (map (holding (q.0 + 1)) q.1.held.items))
        (λ q. not (q.0 + 1 == m) && any_held p (q.0 + 1) q.1.held.items) (enumerate_from 0 machines)
        (λ q. ap (λ b. not (q.0 + 1 == m) && b) (any_map p (holding (q.0 + 1)) q.1.held.items))

    left : list_any p (filter (λ (h : Holding). not (h.machine == m)) (lingering_from land moment 1 (map (machine_state locks) machines)))
        ≡ list_any (λ (q : ℕ × Machine L). not (q.0 + 1 == m) && any_lingering p land moment (q.0 + 1) q.1.lingering.items) (enumerate_from 0 machines)
    left =
        ap (λ hs. list_any p (filter (λ (h : Holding). not (h.machine == m)) hs)) (left_from locks land moment 1 machines)
        ∙ any_but (λ n (a : Machine L). map (lingering_holding n) (filter (lingers land moment) a.lingering.items))
        (mapped_on lingering_holding (λ (a : Machine L). filter (lingers land moment) a.lingering.items) (λ i l. refl)) p 0 m machines
        ∙ any_same (λ (q : ℕ × Machine L). not (q.0 + 1 == m) && list_any p (map (lingering_holding (q.0 + 1)) (filter (lingers land moment) q.1.lingering.items)))
        (λ q. not (q.0 + 1 == m) && any_lingering p land moment (q.0 + 1) q.1.lingering.items) (enumerate_from 0 machines)
        (λ q. ap (λ b. not (q.0 + 1 == m) && b) (any_left p land moment (q.0 + 1) q.1.lingering.items))

-- Of all.
pub any_all : {L : Type 0} (locks : L → Locks) (p : Holding → Bool) (land moment m : ℕ) (machines : List (Machine L)) (mine : List Grant)
    → list_any p (all_with land moment m (map (machine_state locks) machines) mine) ≡ (any_beside p land moment m machines || any_held p m mine)
any_all locks p land moment m machines mine =
    list_any-append p (others_from land moment m (map (machine_state locks) machines)) (map (holding m) mine)
    ∙ ap₂ (λ b c. b || c) (others_at locks p land moment m machines) (any_map p (holding m) mine)

-- What a machine holds is there.
pub held_on : {L : Type 0} (locks : L → Locks) (k : Kept L) (m : ℕ) (a : Machine L) → Some (machine_state locks a) ≡ machine_in (kept_state locks k) m
    → a.held.items ≡ held_in (kept_state locks k) m
unfolding machine_state
held_on locks k m a at = ap (λ (o : Option MachineState). option_map_or (λ (s : MachineState). s.held) o []) at

pub lingering_on : {L : Type 0} (locks : L → Locks) (k : Kept L) (m : ℕ) (a : Machine L) → Some (machine_state locks a) ≡ machine_in (kept_state locks k) m
    → a.lingering.items ≡ lingering_in (kept_state locks k) m
unfolding machine_state
lingering_on locks k m a at = ap (λ (o : Option MachineState). option_map_or (λ (s : MachineState). s.lingering) o []) at

-- ---- now

-- A moment is that of what is kept, and so are the machines.
pub record IsNow {L : Type 0} (locks : L → Locks) (k : Kept L) (land moment : ℕ) (machines : List (Machine L)) : Type 0 where
  pub land_is : land ≡ (kept_state locks k).header.timing.land
  pub moment_is : moment ≡ (kept_state locks k).moment
  pub all : machines ≡ k.machines.items

-- The others are those of the machines.
others_kept : {L : Type 0} (locks : L → Locks) (k : Kept L) (land moment m : ℕ) (machines : List (Machine L)) → IsNow locks k land moment machines
    → others_from land moment m (map (machine_state locks) machines) ≡ others_in (kept_state locks k) m
unfolding kept_state
others_kept locks k land moment m machines now =
    ap₂ (λ l n. others_from l n m (map (machine_state locks) machines)) now.land_is now.moment_is
    ∙ ap (λ ms. others_from (kept_state locks k).header.timing.land (kept_state locks k).moment m (map (machine_state locks) ms)) now.all

pub left_are : {L : Type 0} (locks : L → Locks) (k : Kept L) (land moment m n first : ℕ) (machines : List (Machine L)) (held : List Grant) → IsNow locks k land moment machines
    → held ≡ held_in (kept_state locks k) m → first ≡ length held - n
    → conflicts_after (others_from land moment m (map (machine_state locks) machines)) m (take first held) (drop first held) ≡ conflicts_left (kept_state locks k) m n
left_are locks k land moment m n first machines held now mine cut =
    ap (λ i. conflicts_after (others_from land moment m (map (machine_state locks) machines)) m (take i held) (drop i held)) cut
    ∙ ap₂ (λ hs (gs : List Grant). conflicts_after hs m (take (length gs - n) gs) (drop (length gs - n) gs)) (others_kept locks k land moment m machines now) mine

-- ---- what lingers on machine m

-- It conflicts with nothing there.
own_never : (m : ℕ) (l : Lingering) (h : Holding) → h.machine ≡ m → conflicts (lingering_holding m l) h ≡ false
own_never m l h there =
    ap (λ b. same_place l.held.path l.held.offset h.held.path h.held.offset && not (is_shared l.held.mode && is_shared h.held.mode)
    && not (b && (l.held.process == h.held.process || true || h.lingers))) (ap (λ n. m == n) there ∙ number_itself m)
    ∙ one (same_place l.held.path l.held.offset h.held.path h.held.offset) (is_shared l.held.mode && is_shared h.held.mode) (l.held.process == h.held.process) h.lingers
  where
    one : (place shared process b : Bool) → (place && not shared && not (true && (process || true || b))) ≡ false
    one false shared process b = refl
    one true true process b = refl
    one true false true b = refl
    one true false false b = refl

-- One after another is added to some uses, of which none of another machine than those.
lingers_more : (m : ℕ) (os xs : List Holding) (ls : List Lingering)
    → ((l : Lingering) → list_any (conflicts (lingering_holding m l)) xs ≡ list_any (conflicts (lingering_holding m l)) os)
    → has_conflict (xs ++ map (lingering_holding m) ls) ≡ (has_conflict xs || list_any (λ l. list_any (conflicts (lingering_holding m l)) os) ls)
lingers_more m os xs [] same = ap has_conflict (append_nil xs) ∙ sym (or_none (has_conflict xs))
  where
    append_nil : (hs : List Holding) → hs ++ [] ≡ hs
    append_nil [] = refl
    append_nil (h ∷ hs) = ap (λ ks. h ∷ ks) (append_nil hs)

    or_none : (b : Bool) → (b || false) ≡ b
    or_none true = refl
    or_none false = refl
lingers_more m os xs (l ∷ ls) same =
    ap has_conflict (sym (append_assoc xs (a ∷ []) (map (lingering_holding m) ls)))
    ∙ lingers_more m os (xs ++ a ∷ []) ls (λ b. list_any-append (conflicts (lingering_holding m b)) xs (a ∷ [])
    ∙ ap₂ (λ x y. x || (y || false)) (same b) (own_never m b a refl) ∙ or_none (list_any (conflicts (lingering_holding m b)) os))
    ∙ ap (λ b. b || list_any (λ x. list_any (conflicts (lingering_holding m x)) os) ls) (one_more_conflict xs a ∙ ap (λ b. has_conflict xs || b) (same l))
    ∙ or_on (has_conflict xs) (list_any (conflicts a) os) (list_any (λ x. list_any (conflicts (lingering_holding m x)) os) ls)
  where
    a : Holding
    a = lingering_holding m l

    or_none : (b : Bool) → (b || (false || false)) ≡ b
    or_none true = refl
    or_none false = refl

    or_on : (x y z : Bool) → ((x || y) || z) ≡ (x || (y || z))
    or_on true y z = refl
    or_on false y z = refl

none_own : (m : ℕ) (l : Lingering) (gs : List Grant) → list_any (conflicts (lingering_holding m l)) (map (holding m) gs) ≡ false
none_own m l [] = refl
none_own m l (g ∷ gs) = ap₂ (λ x y. x || y) (own_never m l (holding m g) refl) (none_own m l gs)

-- So it adds the conflicts that it has with the others.
lingers_beside : (m : ℕ) (os : List Holding) (ls : List Lingering) (gs : List Grant)
    → has_conflict (os ++ map (lingering_holding m) ls ++ map (holding m) gs)
    ≡ (has_conflict (os ++ map (holding m) gs) || list_any (λ l. list_any (conflicts (lingering_holding m l)) os) ls)
lingers_beside m os ls gs =
    conflicts_of_parts os (map (lingering_holding m) ls) (map (holding m) gs)
    ∙ lingers_more m os (os ++ map (holding m) gs) ls (λ l. list_any-append (conflicts (lingering_holding m l)) os (map (holding m) gs)
    ∙ ap (λ b. list_any (conflicts (lingering_holding m l)) os || b) (none_own m l gs) ∙ or_none (list_any (conflicts (lingering_holding m l)) os))
  where
    or_none : (b : Bool) → (b || false) ≡ b
    or_none true = refl
    or_none false = refl

-- Whether what lingers on machine m conflicts with a use of another.
abbrev clashes_beside : KeptState → ℕ → Bool
clashes_beside k m =
    list_any (λ l. list_any (conflicts (lingering_holding m l)) (others_in k m)) (filter (lingers k.header.timing.land k.moment) (lingering_in k m))

before_parts : (k : KeptState) (m n : ℕ)
    → has_conflict (uses_before k m n) ≡ (has_conflict (others_in k m ++ map (holding m) (take (length (held_in k m) - n) (held_in k m))) || clashes_beside k m)
before_parts k m n =
    lingers_beside m (others_in k m) (filter (lingers k.header.timing.land k.moment) (lingering_in k m)) (take (length (held_in k m) - n) (held_in k m))

with_parts : (k : KeptState) (m : ℕ) → has_conflict (uses_with k m) ≡ (has_conflict (others_in k m ++ map (holding m) (held_in k m)) || clashes_beside k m)
with_parts k m = lingers_beside m (others_in k m) (filter (lingers k.header.timing.land k.moment) (lingering_in k m)) (held_in k m)

first_false : (a b : Bool) → (a || b) ≡ false → a ≡ false
first_false true b is = is
first_false false b is = refl

second_false : (a b : Bool) → (a || b) ≡ false → b ≡ false
second_false true b is = absurd (false_is_true (sym is))
second_false false b is = is

-- Where no two uses conflict before the grants, none do but for what lingers.
pub before_are : {L : Type 0} (locks : L → Locks) (k : Kept L) (land moment m n first : ℕ) (machines : List (Machine L)) (held : List Grant) → IsNow locks k land moment machines
    → held ≡ held_in (kept_state locks k) m → first ≡ length held - n → has_conflict (uses_before (kept_state locks k) m n) ≡ false
    → has_conflict (all_with land moment m (map (machine_state locks) machines) (take first held)) ≡ false
before_are locks k land moment m n first machines held now mine cut none =
    ap₂ (λ hs gs. has_conflict (hs ++ map (holding m) gs)) (others_kept locks k land moment m machines now)
    (ap (λ i. take i held) cut ∙ ap (λ (gs : List Grant). take (length gs - n) gs) mine)
    ∙ first_false (has_conflict (others_in (kept_state locks k) m ++ map (holding m) (take (length (held_in (kept_state locks k) m) - n) (held_in (kept_state locks k) m))))
    (clashes_beside (kept_state locks k) m) (sym (before_parts (kept_state locks k) m n) ∙ none)

clash_is : {L : Type 0} (locks : L → Locks) (k : Kept L) (land moment m : ℕ) (machines : List (Machine L)) (ls : List Lingering) → IsNow locks k land moment machines
    → ls ≡ lingering_in (kept_state locks k) m → any_lingering (λ a. any_beside (conflicts a) land moment m machines) land moment m ls ≡ clashes_beside (kept_state locks k) m
clash_is locks k land moment m machines ls now left =
    any_same (λ l. lingers land moment l && any_beside (conflicts (lingering_holding m l)) land moment m machines)
    (λ l. lingers land moment l && list_any (conflicts (lingering_holding m l)) (others_in (kept_state locks k) m)) ls
    (λ l. ap (λ b. lingers land moment l && b)
    (sym (others_at locks (conflicts (lingering_holding m l)) land moment m machines) ∙ ap (list_any (conflicts (lingering_holding m l))) (others_kept locks k land moment m machines now)))
    ∙ sym (any_filter (λ l. list_any (conflicts (lingering_holding m l)) (others_in (kept_state locks k) m)) (lingers land moment) ls)
    ∙ ap₂ (λ d n. list_any (λ l. list_any (conflicts (lingering_holding m l)) (others_in (kept_state locks k) m)) (filter (lingers d n) ls)) now.land_is now.moment_is
    ∙ ap (λ (xs : List Lingering). list_any (λ l. list_any (conflicts (lingering_holding m l)) (others_in (kept_state locks k) m))
    (filter (lingers (kept_state locks k).header.timing.land (kept_state locks k).moment) xs)) left

not_zero : (n : ℕ) → (n ≡ 0 → ⊥) → (n == 0) ≡ false
not_zero zero some = absurd (some refl)
not_zero (suc n) some = grind (arith, nat_tests)

known_calm : (held clash calm : Bool) → (calm ≡ true → clash ≡ false) → (not held && (calm || not clash)) ≡ not (held || clash)
known_calm true clash calm none = refl
known_calm false true true none = absurd (false_is_true (sym (none refl)))
known_calm false true false none = refl
known_calm false false true none = refl
known_calm false false false none = refl

pub calm_is : {L : Type 0} (locks : L → Locks) (k : Kept L) (land moment m n : ℕ) (machines : List (Machine L)) (held : List Grant) (ls : List Lingering) (calm quiet left : Bool)
    → IsNow locks k land moment machines → held ≡ held_in (kept_state locks k) m → ls ≡ lingering_in (kept_state locks k) m → (n ≡ 0 → ⊥)
    → (calm ≡ true → has_conflict (uses_before (kept_state locks k) m n) ≡ false)
    → quiet ≡ not (has_conflict (all_with land moment m (map (machine_state locks) machines) held))
    → left ≡ (quiet && (calm || not (any_lingering (λ a. any_beside (conflicts a) land moment m machines) land moment m ls)))
    → left ≡ (if n == 0 then calm else not (has_conflict (uses_with (kept_state locks k) m)))
calm_is locks k land moment m n machines held ls calm quiet left now mine lingering some before is so =
    so
    ∙ ap₂ (λ q c. q && (calm || not c))
    (is ∙ ap₂ (λ hs gs. not (has_conflict (hs ++ map (holding m) gs))) (others_kept locks k land moment m machines now) mine) (clash_is locks k land moment m machines ls now lingering)
    ∙ known_calm (has_conflict (others_in (kept_state locks k) m ++ map (holding m) (held_in (kept_state locks k) m))) (clashes_beside (kept_state locks k) m) calm
    (λ c. second_false (has_conflict (others_in (kept_state locks k) m ++ map (holding m) (take (length (held_in (kept_state locks k) m) - n) (held_in (kept_state locks k) m))))
    (clashes_beside (kept_state locks k) m) (sym (before_parts (kept_state locks k) m n) ∙ before c))
    ∙ ap not (sym (with_parts (kept_state locks k) m))
    ∙ sym (ap (λ b. if b then calm else not (has_conflict (uses_with (kept_state locks k) m))) (not_zero n some))

-- One grant more conflicts with one before it, or two before it do.
more_clash : (land moment : ℕ) (ss : List MachineState) (m at : ℕ) (held : List Grant) (g : Grant) → at < length held → g ≡ get_or held at g
    → (has_conflict (all_with land moment m ss (take at held)) || conflicts_with land moment m ss (take at held) (holding m g)) ≡ has_conflict (all_with land moment m ss (take (at + 1) held))
more_clash land moment ss m at held g lt is =
    let before : List Holding = all_with land moment m ss (take at held) in
    let longer : all_with land moment m ss (take (at + 1) held) ≡ before ++ holding m g ∷ []
    = ap (λ gs. others_from land moment m ss ++ map (holding m) gs) (take_more held at g lt ∙ ap (λ x. take at held ++ x ∷ []) (sym is))
    ∙ ap (λ hs. others_from land moment m ss ++ hs) (map-append (holding m) (take at held) (g ∷ []))
    ∙ sym (append_assoc (others_from land moment m ss) (map (holding m) (take at held)) (holding m g ∷ [])) in
    sym (ap has_conflict longer ∙ one_more_conflict before (holding m g))

-- Where two before it do, and where none do.
pub still_clash : (land moment : ℕ) (ss : List MachineState) (m at : ℕ) (held : List Grant) (before : Bool) → at < length held → before ≡ true → before ≡ has_conflict (all_with land moment m ss (take at held))
    → before ≡ has_conflict (all_with land moment m ss (take (at + 1) held))
still_clash land moment ss m at held before lt is known =
    let x = there_is held at lt in
    is ∙ sym (ap (λ b. b || conflicts_with land moment m ss (take at held) (holding m x.0)) (sym known ∙ is))
    ∙ more_clash land moment ss m at held x.0 lt (sym (get_or_from_slice_get held at x.0 x.0 x.1))

pub next_clash : (land moment : ℕ) (ss : List MachineState) (m at : ℕ) (held : List Grant) (before clash : Bool) (g : Grant) → at < length held → before ≡ false
    → before ≡ has_conflict (all_with land moment m ss (take at held)) → g ≡ get_or held at g → clash ≡ conflicts_with land moment m ss (take at held) (holding m g)
    → clash ≡ has_conflict (all_with land moment m ss (take (at + 1) held))
next_clash land moment ss m at held before clash g lt is known there so =
    so ∙ sym (ap (λ b. b || conflicts_with land moment m ss (take at held) (holding m g)) (sym known ∙ is)) ∙ more_clash land moment ss m at held g lt there

-- One grant more is counted.
pub counted_more : (hs : List Holding) (m at count start : ℕ) (held : List Grant) → at < length held → (b : Bool)
    → b ≡ has_conflict (hs ++ map (holding m) (take (at + 1) held)) → count + conflicts_after hs m (take at held) (drop at held) ≡ start
    → count + (if b then 1 else 0) + conflicts_after hs m (take (at + 1) held) (drop (at + 1) held) ≡ start
counted_more hs m at count start held lt b is so_far =
    let d : Grant = (there_is held at lt).0 in
    let next : conflicts_after hs m (take at held) (drop at held) ≡ (if b then 1 else 0) + conflicts_after hs m (take (at + 1) held) (drop (at + 1) held)
    = ap (conflicts_after hs m (take at held)) (drop_more held at d lt)
    ∙ ap (λ ys. (if has_conflict (hs ++ map (holding m) ys) then 1 else 0) + conflicts_after hs m ys (drop (at + 1) held)) (sym (take_more held at d lt))
    ∙ ap (λ c. (if c then 1 else 0) + conflicts_after hs m (take (at + 1) held) (drop (at + 1) held)) (sym is) in
    omega (arith, so_far, next)
