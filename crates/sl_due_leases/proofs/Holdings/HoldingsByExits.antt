-- The exit of a process keeps the facts of holdings: its own end, and the orphans that are left of them stand where they stood.
use Rattle.sl_due_facts.proofs.Acts.LoopsKeep.{each_in_turn, for_each_keeps}
use Rattle.sl_due_facts.specs.Acts.TraceSoFar.{entry_of}
use Rattle.sl_area.specs.AreaLayout.{is_base}
use Rattle.sl_due.specs.DueInputs.{end_holdings, leave_holdings}
use Rattle.sl_due.specs.Steps.{Step, add_end, add_grant, seen}
use Rattle.sl_due_leases.proofs.Holdings.HoldingsByEffects.{HoldsAt, end_inside}
use Rattle.sl_due_leases.proofs.Holdings.HoldingsByGrants.{grant_held, old_or_granted}
use Rattle.sl_due_leases.proofs.Holdings.HoldingsByLoops.{ended_held}
use Rattle.sl_due_leases.proofs.Holdings.PlainPlaces.{fewer_kept, kept_counted, one_place, place_turned}
use Rattle.sl_due_leases.proofs.Holdings.StandsGrow.{stands_same}
use Rattle.sl_due_facts.proofs.AddedEffects.EffectsAreTold.{effects_are_told}
use Rattle.sl_due_facts.specs.AddedEffects.OneMoreEffect.{with_end}
use Rattle.sl_words.proofs.Lists.{any_of, contains_cases, contains_first, contains_more, contains_none, in_map, kept, kept_inside}
use Rattle.sl_words.proofs.Numbers.{above_zero, number_itself}
use Rattle.sl_trace.specs.Sessions.{is_joined, session_numbered}
use Rattle.sl_trace.specs.declared.session.Session.{Session}
use Rattle.sl_due_facts.specs.Facts.HeardCall.{heard_by}
use Rattle.sl_due_facts.specs.Facts.HoldingFacts.{StandsExclusive}
use Rattle.sl_trace.specs.Traces.{Trace, end_of, has_orphan_of, held_by, holdings, is_ended_by, is_orphan, is_shared, leaves_orphan, next_child, no_process, orphan_of, orphans_left, same_place, spot_of_grant}
use Rattle.sl_trace.specs.declared.effects.End.{End}
use Rattle.sl_trace.specs.declared.effects.Entry.{Entry}
use Rattle.sl_trace.specs.declared.effects.Grant.{Grant}
use Rattle.sl_words.proofs.CaseLaws.{false_is_true, is_false, not_both}
use Rattle.sl_words.proofs.WordLaws.{and_true}
use Rattle.std.proofs.Common.{ap, arith, inl, inr, refl, subst, sym, ◌∙◌}
use Rattle.std.proofs.lemmas.Bool.{eqb-true}
use Rattle.std.proofs.lemmas.List.Elements.{Contains-append_cases}
use Rattle.std.specs.Prelude.{Bool, Contains, IsTrue, List, Some, [], cond, false, filter, length, map, not, true, ℕ, ◌&&◌, ◌+◌, ◌<◌, ◌==◌, ◌||◌, ◌∷◌, ◌≡◌, ◌≤◌, ◌⊎◌}

-- ---- ends

-- What is held after an end was held, and is not what ended.
pub not_ended : (past : Trace) (e : Entry) (x : End) (g : Grant) → e.effects.grants ≡ [] → Contains (holdings (with_end x e ∷ past)) g → is_ended_by (x ∷ []) g ≡ false
not_ended past e x g none there =
    let left : List Grant = filter (λ k. not (is_ended_by e.effects.ends k)) (holdings past) in
    by left (Contains-append_cases (filter (λ k. not (is_ended_by (x ∷ []) k)) left) e.effects.grants g (subst (λ gs. Contains gs g) (effects_are_told.ends x e past) there)) where
      is_not : (b : Bool) → not b ≡ true → b ≡ false
      is_not false h = refl
      is_not true h = absurd (false_is_true h)

      by : (left : List Grant) → Contains (filter (λ k. not (is_ended_by (x ∷ []) k)) left) g ⊎ Contains e.effects.grants g → is_ended_by (x ∷ []) g ≡ false
      by left (inl old) = is_not (is_ended_by (x ∷ []) g) (kept_inside (λ k. not (is_ended_by (x ∷ []) k)) left g old).1
      by left (inr new) = absurd (contains_none g (subst (λ gs. Contains gs g) none new))

pub ends_itself : (g : Grant) → is_ended_by (end_of g ∷ []) g ≡ true
ends_itself g = ap (λ b. b || false) (ap (λ b. b && same_place g.path g.offset g.path g.offset) (number_itself g.process) ∙ one_place g.path g.offset)

-- While a process's holdings end, what is left of them is still to come.
record IsEnding (y : Step) (p : ℕ) (rest : List Grant) (z : Step) : Type 0 where
  bare : z.effects.grants ≡ []
  inside : (h : Grant) → Contains (holdings (seen z)) h → Contains (holdings (seen y)) h
  left : (h : Grant) → Contains (holdings (seen z)) h → h.process ≡ p → Contains rest h

ends_one : (y : Step) (p : ℕ) (g : Grant) (rest : List Grant) (z : Step) → IsEnding y p (g ∷ rest) z → IsEnding y p rest (add_end (end_of g) z)
ends_one y p g rest z k =
    record {
      bare = k.bare;
      inside = λ h there. k.inside h (end_inside z.past (entry_of z) (end_of g) h there);
      left = λ h there its. by h there (contains_cases g rest h (k.left h (end_inside z.past (entry_of z) (end_of g) h there) its));
    } where
      by : (h : Grant) → Contains (holdings (seen (add_end (end_of g) z))) h → (g ≡ h) ⊎ Contains rest h → Contains rest h
      by h there (inr more) = more
      by h there (inl is) = absurd (not_both (is_ended_by (end_of g ∷ []) h) (subst (λ k. is_ended_by (end_of g ∷ []) k ≡ true) is (ends_itself g)) (not_ended z.past (entry_of z) (end_of g) h k.bare there))

pub record HasEnded (y : Step) (p : ℕ) (z : Step) : Type 0 where
  pub inside : (h : Grant) → Contains (holdings (seen z)) h → Contains (holdings (seen y)) h
  pub gone : (h : Grant) → Contains (holdings (seen z)) h → h.process ≡ p → ⊥

pub all_ended : (y : Step) (p : ℕ) → y.effects.grants ≡ [] → HasEnded y p (end_holdings p y)
all_ended y p bare =
    let last : IsEnding y p [] (end_holdings p y) =
    each_in_turn (λ rest z. IsEnding y p rest z) (filter (λ (g : Grant). g.process == p) (holdings (seen y))) (λ g. add_end (end_of g)) y (λ g rest z k. ends_one y p g rest z k)
    (record { bare = bare; inside = λ h there. there; left = λ h there its. kept (λ (g : Grant). g.process == p) (holdings (seen y)) h (subst (λ n. (n == p) ≡ true) (sym its) (number_itself p)) there })
    in
    record { inside = last.inside; gone = λ h there its. contains_none h (last.left h there its) }

-- ---- orphans

-- A grant of a holding that stood: what doesn't ask what else is held.
record Stood (z : Step) (g : Grant) : Type 0 where
  session : Session
  its : session_numbered z.setting (seen z) g.session ≡ Some session
  joined : is_joined (seen z) session ≡ true
  lockspace : g.lockspace ≡ session.lockspace
  placed : IsTrue (is_base z.setting.layout g.offset)
  born : g.process < next_child (seen z)
  stands : is_shared g.mode ≡ false → StandsExclusive z.setting (seen z) (heard_by z.input) session (spot_of_grant g) g.lver

stood_ended : (z : Step) (e : End) (g : Grant) → Stood z g → Stood (add_end e z) g
stood_ended z e g k =
    record {
      session = k.session;
      its = k.its;
      joined = k.joined;
      lockspace = k.lockspace;
      placed = k.placed;
      born = k.born;
      stands = λ exclusive.
          stands_same z.setting (seen z) (seen (add_end e z)) (heard_by z.input) (heard_by z.input) k.session (spot_of_grant g) g.lver refl refl (λ j n is. is) (λ m inside opens. opens) (k.stands exclusive);
    }

stood_granted : (z : Step) (h g : Grant) → Stood z g → Stood (add_grant h z) g
stood_granted z h g k =
    record {
      session = k.session;
      its = k.its;
      joined = k.joined;
      lockspace = k.lockspace;
      placed = k.placed;
      born = k.born;
      stands = λ exclusive.
          stands_same z.setting (seen z) (seen (add_grant h z)) (heard_by z.input) (heard_by z.input) k.session (spot_of_grant g) g.lver refl refl (λ j n is. is) (λ m inside opens. opens) (k.stands exclusive);
    }

-- Places that are apart.
abbrev Apart : List Grant → Type 0
Apart [] = Unit {0}
Apart (g ∷ gs) = ((k : Grant) → Contains gs k → same_place k.path k.offset g.path g.offset ≡ false) × Apart gs

abbrev of_place : ℕ → List ℕ → ℕ → Grant → Bool
of_place p path offset g = g.process == p && same_place g.path g.offset path offset

two_of : (n : ℕ) → 1 ≤ n → 1 + n ≤ 1 → ⊥
two_of n some few = omega (arith, some, few)

apart_by : (p : ℕ) (gs : List Grant) → ((g : Grant) → Contains gs g → (g.process == p) ≡ true) → ((g : Grant) → Contains gs g → length (held_by gs p g.path g.offset) ≤ 1) → Apart (map orphan_of gs)
apart_by p [] its few = tt
apart_by p (g ∷ gs) its few = (apart, apart_by p gs (λ k there. its k (contains_more g gs k there)) rest) where
  here : (path : List ℕ) (offset : ℕ) → of_place p path offset g ≡ true → length (held_by (g ∷ gs) p path offset) ≡ 1 + length (held_by gs p path offset)
  here path offset is = ap (λ b. length (cond b (g ∷ held_by gs p path offset) (held_by gs p path offset))) is ∙ omega arith

  own : of_place p g.path g.offset g ≡ true
  own = ap (λ b. b && same_place g.path g.offset g.path g.offset) (its g (contains_first g gs)) ∙ one_place g.path g.offset

  apart : (k : Grant) → Contains (map orphan_of gs) k → same_place k.path k.offset g.path g.offset ≡ false
  apart k there =
      let v = in_map orphan_of gs k there in
      is_false (same_place k.path k.offset g.path g.offset)
      (λ same.
      let matches : of_place p g.path g.offset v.0 ≡ true =
      ap (λ b. b && same_place v.0.path v.0.offset g.path g.offset) (its v.0 (contains_more g gs v.0 v.1))
      ∙ (ap (λ (z : Grant). same_place z.path z.offset g.path g.offset) v.2 ∙ same) in
      two_of (length (held_by gs p g.path g.offset)) (kept_counted (of_place p g.path g.offset) gs v.0 v.1 matches) (subst (λ n. n ≤ 1) (here g.path g.offset own) (few g (contains_first g gs))))

  less : (path : List ℕ) (offset : ℕ) (b : Bool) → length (held_by gs p path offset) ≤ length (cond b (g ∷ held_by gs p path offset) (held_by gs p path offset))
  less path offset true = omega arith
  less path offset false = omega arith

  rest : (k : Grant) → Contains gs k → length (held_by gs p k.path k.offset) ≤ 1
  rest k there =
      let a = less k.path k.offset (of_place p k.path k.offset g) in
      let b = few k (contains_more g gs k there) in
      trans_le_one (length (held_by gs p k.path k.offset)) (length (held_by (g ∷ gs) p k.path k.offset)) a b where
        trans_le_one : (m n : ℕ) → m ≤ n → n ≤ 1 → m ≤ 1
        trans_le_one m n a b = omega (arith, a, b)

-- While orphans are made, each that is still to come has its place.
record IsLeaving (rest : List Grant) (z : Step) : Type 0 where
  holds : HoldsAt z
  stood : (g : Grant) → Contains rest g → Stood z g
  alone : (g h : Grant) → Contains rest g → Contains (holdings (seen z)) h → same_place h.path h.offset g.path g.offset ≡ true
      → (is_shared h.mode ≡ true) × (is_shared g.mode ≡ true) × (h.process ≡ g.process → ⊥)
  apart : Apart rest

leaves_one : (g : Grant) (rest : List Grant) (z : Step) → IsLeaving (g ∷ rest) z → IsLeaving rest (add_grant g z)
leaves_one g rest z k =
    record {
      holds = grant_held z g (record {
        session = (k.stood g (contains_first g rest)).session;
        its = (k.stood g (contains_first g rest)).its;
        joined = (k.stood g (contains_first g rest)).joined;
        lockspace = (k.stood g (contains_first g rest)).lockspace;
        placed = (k.stood g (contains_first g rest)).placed;
        alone = λ h there same. k.alone g h (contains_first g rest) there same;
        born = (k.stood g (contains_first g rest)).born;
        stands = (k.stood g (contains_first g rest)).stands;
      }) k.holds;
      stood = λ e there. stood_granted z g e (k.stood e (contains_more g rest e there));
      alone = λ e h there held same. by e h there same (old_or_granted z g h held);
      apart = k.apart.1;
    } where
      by : (e h : Grant) → Contains rest e → same_place h.path h.offset e.path e.offset ≡ true → Contains (holdings (seen z)) h ⊎ (g ≡ h)
          → (is_shared h.mode ≡ true) × (is_shared e.mode ≡ true) × (h.process ≡ e.process → ⊥)
      by e h there same (inl old) = k.alone e h (contains_more g rest e there) old same
      by e h there same (inr new) =
          absurd (not_both (same_place e.path e.offset g.path g.offset) (place_turned g.path e.path g.offset e.offset (subst (λ (v : Grant). same_place v.path v.offset e.path e.offset ≡ true) (sym new) same)) (k.apart.0 e there))

pub left_held : (y : Step) (p : ℕ) → y.effects.grants ≡ [] → HoldsAt y → HoldsAt (leave_holdings p y)
unfolding leave_holdings
left_held y p bare h = (each_in_turn IsLeaving (orphans_left p hs) add_grant (end_holdings p y) leaves_one first).holds where
  hs : List Grant
  hs = holdings (seen y)

  ls : List Grant
  ls = filter (leaves_orphan hs p) hs

  ended : HasEnded y p (end_holdings p y)
  ended = all_ended y p bare

  -- a holding that leaves an orphan
  leaves : (l : Grant) → Contains ls l → Contains hs l × ((l.process == p) ≡ true) × (has_orphan_of hs l ≡ false)
  leaves l there =
      let k = kept_inside (leaves_orphan hs p) hs l there in
      let v = and_true (l.process == p && l.persistent) (not (has_orphan_of hs l)) k.1 in
      (k.0, (and_true (l.process == p) l.persistent v.0).0, is_not (has_orphan_of hs l) v.1) where
        is_not : (b : Bool) → not b ≡ true → b ≡ false
        is_not false h = refl
        is_not true h = absurd (false_is_true h)

  stood_here : (l : Grant) → Contains hs l → Stood y (orphan_of l)
  stood_here l there =
      let o = h.owned l there in
      record {
        session = o.0;
        its = o.1;
        joined = o.2;
        lockspace = o.3;
        placed = o.4;
        born = above_zero l.process (next_child (seen y)) (h.born l there);
        stands = λ exclusive. h.stands l o.0 there o.1 exclusive;
      }

  stood_then : (g : Grant) → Stood y g → Stood (end_holdings p y) g
  stood_then g k = for_each_keeps (λ z. Stood z g) (filter (λ (e : Grant). e.process == p) (holdings (seen y))) (λ e. add_end (end_of e)) y (λ e there z f. stood_ended z (end_of e) g f) k

  beside : (l k : Grant) → Contains ls l → Contains (holdings (seen (end_holdings p y))) k → same_place k.path k.offset l.path l.offset ≡ true
      → (is_shared k.mode ≡ true) × (is_shared l.mode ≡ true) × (k.process ≡ no_process → ⊥)
  beside l k there held same =
      let its = leaves l there in
      let old : Contains hs k = ended.inside k held in
      let other : k ≡ l → ⊥ = λ is. ended.gone k held (ap (λ (z : Grant). z.process) is ∙ eqb-true l.process p its.1) in (
        shared_by k (λ exclusive. other (sym (h.alone k l old its.0 (place_turned k.path l.path k.offset l.offset same) exclusive))),
        shared_by l (λ exclusive. other (h.alone l k its.0 old same exclusive)),
        λ none. not_both (has_orphan_of hs l) (any_of (λ (e : Grant). is_orphan e && same_place e.path e.offset l.path l.offset) hs k (ap (λ b. b && same_place k.path k.offset l.path l.offset) (subst (λ n. (n == no_process) ≡ true) (sym none) refl) ∙ same) old) its.2,
      ) where
        shared_by : (g : Grant) → (is_shared g.mode ≡ false → ⊥) → is_shared g.mode ≡ true
        shared_by g never = by (is_shared g.mode) refl where
          by : (b : Bool) → is_shared g.mode ≡ b → is_shared g.mode ≡ true
          by true is = is
          by false is = absurd (never is)

  few : (l : Grant) → Contains ls l → length (held_by ls p l.path l.offset) ≤ 1
  few l there =
      let its = leaves l there in
      let one : length (held_by hs p l.path l.offset) ≡ 1 = ap (λ n. length (held_by hs n l.path l.offset)) (sym (eqb-true l.process p its.1)) ∙ h.single l its.0 in
      let less : length (held_by ls p l.path l.offset) ≤ length (held_by hs p l.path l.offset) = fewer_kept (of_place p l.path l.offset) (leaves_orphan hs p) hs in
      at_most (length (held_by ls p l.path l.offset)) (length (held_by hs p l.path l.offset)) less one where
        at_most : (m n : ℕ) → m ≤ n → n ≡ 1 → m ≤ 1
        at_most m n a b = omega (arith, a, b)

  first : IsLeaving (orphans_left p hs) (end_holdings p y)
  first =
      record {
        holds = ended_held y p h;
        stood = λ g there. (let v = in_map orphan_of ls g there in subst (λ z. Stood (end_holdings p y) z) v.2 (stood_then (orphan_of v.0) (stood_here v.0 (leaves v.0 v.1).0)));
        alone = λ g k there held same.
            let v = in_map orphan_of ls g there in
            subst (λ (z : Grant). (is_shared k.mode ≡ true) × (is_shared z.mode ≡ true) × (k.process ≡ z.process → ⊥)) v.2
            (beside v.0 k v.1 held (subst (λ (z : Grant). same_place k.path k.offset z.path z.offset ≡ true) (sym v.2) same));
        apart = apart_by p ls (λ l there. (leaves l there).1) few;
      }
