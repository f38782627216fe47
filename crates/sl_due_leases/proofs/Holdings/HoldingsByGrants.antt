-- A grant keeps the facts of holdings where nothing at its place is in its way.
use Rattle.sl_due_facts.specs.Acts.TraceSoFar.{entry_of}
use Rattle.sl_area.specs.AreaLayout.{is_base}
use Rattle.sl_due.specs.Steps.{Step, add_grant, seen}
use Rattle.sl_due_leases.proofs.Holdings.HoldingsByEffects.{HoldsAt}
use Rattle.sl_due_leases.proofs.Holdings.PlainPlaces.{none_counted, one_place, place_turned}
use Rattle.sl_due_leases.proofs.Holdings.StandsGrow.{stands_same}
use Rattle.sl_due_facts.proofs.AddedEffects.EffectsAreTold.{effects_are_told}
use Rattle.sl_words.proofs.Lists.{contains_cases, contains_none}
use Rattle.sl_words.proofs.Numbers.{number_itself}
use Rattle.sl_trace.specs.Sessions.{is_joined, session_numbered}
use Rattle.sl_trace.specs.declared.session.Session.{Session}
use Rattle.sl_due_facts.specs.Facts.HeardCall.{heard_by}
use Rattle.sl_due_facts.specs.Facts.HoldingFacts.{StandsExclusive}
use Rattle.sl_trace.specs.Traces.{held_by, holdings, is_shared, next_child, same_place, spot_of_grant}
use Rattle.sl_trace.specs.declared.effects.Grant.{Grant}
use Rattle.sl_words.proofs.CaseLaws.{is_false, not_both, one_value}
use Rattle.sl_words.proofs.WordLaws.{and_true}
use Rattle.std.proofs.Common.{ap, inl, inr, refl, subst, sym, ◌∙◌}
use Rattle.std.proofs.lemmas.Bool.{eqb-true}
use Rattle.std.proofs.lemmas.List.{length-append}
use Rattle.std.proofs.lemmas.List.Elements.{Contains-append_cases, filter-append}
use Rattle.std.specs.Prelude.{Bool, Contains, IsTrue, List, Some, cond, false, length, true, [], ℕ, ◌&&◌, ◌++◌, ◌+◌, ◌<◌, ◌==◌, ◌∷◌, ◌≡◌, ◌⊎◌}

-- What a grant asks.
pub record MayGrant (x : Step) (g : Grant) : Type 0 where
  pub session : Session
  pub its : session_numbered x.setting (seen x) g.session ≡ Some session
  pub joined : is_joined (seen x) session ≡ true
  pub lockspace : g.lockspace ≡ session.lockspace
  pub placed : IsTrue (is_base x.setting.layout g.offset)
  pub alone : (h : Grant) → Contains (holdings (seen x)) h → same_place h.path h.offset g.path g.offset ≡ true
      → (is_shared h.mode ≡ true) × (is_shared g.mode ≡ true) × (h.process ≡ g.process → ⊥)
  pub born : g.process < next_child (seen x)
  pub stands : is_shared g.mode ≡ false → StandsExclusive x.setting (seen x) (heard_by x.input) session (spot_of_grant g) g.lver

pub holdings_granted : (x : Step) (g : Grant) → holdings (seen (add_grant g x)) ≡ holdings (seen x) ++ g ∷ []
holdings_granted x g = effects_are_told.grants g (entry_of x) x.past

pub old_or_granted : (x : Step) (g h : Grant) → Contains (holdings (seen (add_grant g x))) h → Contains (holdings (seen x)) h ⊎ (g ≡ h)
old_or_granted x g h there = by (Contains-append_cases (holdings (seen x)) (g ∷ []) h (subst (λ gs. Contains gs h) (holdings_granted x g) there)) where
  by : Contains (holdings (seen x)) h ⊎ Contains (g ∷ []) h → Contains (holdings (seen x)) h ⊎ (g ≡ h)
  by (inl old) = inl old
  by (inr new) = only (contains_cases g [] h new) where
    only : (g ≡ h) ⊎ Contains [] h → Contains (holdings (seen x)) h ⊎ (g ≡ h)
    only (inl is) = inr is
    only (inr none) = absurd (contains_none h none)

abbrev counts : ℕ → List ℕ → ℕ → Grant → Bool
counts p path offset e = e.process == p && same_place e.path e.offset path offset

held_more : (x : Step) (g : Grant) (p : ℕ) (path : List ℕ) (offset : ℕ) → length (held_by (holdings (seen (add_grant g x))) p path offset) ≡ length (held_by (holdings (seen x)) p path offset) + length (held_by (g ∷ []) p path offset)
held_more x g p path offset =
    ap (λ gs. length (held_by gs p path offset)) (holdings_granted x g)
    ∙ (ap (λ gs. length gs) (filter-append (counts p path offset) (holdings (seen x)) (g ∷ []))
    ∙ length-append (held_by (holdings (seen x)) p path offset) (held_by (g ∷ []) p path offset))

one_if : (g : Grant) (p : ℕ) (path : List ℕ) (offset : ℕ) (b : Bool) → counts p path offset g ≡ b → length (held_by (g ∷ []) p path offset) ≡ length (cond b (g ∷ []) [])
one_if g p path offset b is = ap (λ t. length (cond t (g ∷ []) [])) is

apart_from : (x : Step) (g h : Grant) → MayGrant x g → Contains (holdings (seen x)) h → counts h.process h.path h.offset g ≡ false
apart_from x g h may there =
    is_false (counts h.process h.path h.offset g)
    (λ same.
    let v = and_true (g.process == h.process) (same_place g.path g.offset h.path h.offset) same in
    (may.alone h there (place_turned g.path h.path g.offset h.offset v.1)).2 (sym (eqb-true g.process h.process v.0)))

nobody : (x : Step) (g h : Grant) → MayGrant x g → Contains (holdings (seen x)) h → counts g.process g.path g.offset h ≡ false
nobody x g h may there =
    is_false (counts g.process g.path g.offset h)
    (λ same.
    let v = and_true (h.process == g.process) (same_place h.path h.offset g.path g.offset) same in
    (may.alone h there v.1).2 (eqb-true h.process g.process v.0))

pub grant_held : (x : Step) (g : Grant) → MayGrant x g → HoldsAt x → HoldsAt (add_grant g x)
grant_held x g may h =
    record {
      owned = λ k there. owned_by k (old_or_granted x g k there);
      alone = λ k e here there same exclusive. alone_by k e (old_or_granted x g k here) (old_or_granted x g e there) same exclusive;
      single = λ k there. single_by k (old_or_granted x g k there);
      born = λ k there. born_by k (old_or_granted x g k there);
      given = h.given;
      stands = λ k s there its exclusive. stands_by k s (old_or_granted x g k there) its exclusive;
    } where
      owned_by : (k : Grant) → Contains (holdings (seen x)) k ⊎ (g ≡ k)
          → (s : Session) × (session_numbered x.setting (seen x) k.session ≡ Some s) × (is_joined (seen x) s ≡ true) × (k.lockspace ≡ s.lockspace) × IsTrue (is_base x.setting.layout k.offset)
      owned_by k (inl old) = h.owned k old
      owned_by k (inr new) =
          subst (λ (e : Grant). (s : Session) × (session_numbered x.setting (seen x) e.session ≡ Some s) × (is_joined (seen x) s ≡ true) × (e.lockspace ≡ s.lockspace) × IsTrue (is_base x.setting.layout e.offset)) new
          (may.session, may.its, may.joined, may.lockspace, may.placed)

      alone_by : (k e : Grant) → Contains (holdings (seen x)) k ⊎ (g ≡ k) → Contains (holdings (seen x)) e ⊎ (g ≡ e) → same_place e.path e.offset k.path k.offset ≡ true → is_shared k.mode ≡ false → e ≡ k
      alone_by k e (inl here) (inl there) same exclusive = h.alone k e here there same exclusive
      alone_by k e (inr here) (inr there) same exclusive = sym there ∙ here
      alone_by k e (inl here) (inr there) same exclusive =
          let shared = may.alone k here (place_turned g.path k.path g.offset k.offset (subst (λ (z : Grant). same_place z.path z.offset k.path k.offset ≡ true) (sym there) same)) in
          absurd (not_both (is_shared k.mode) shared.0 exclusive)
      alone_by k e (inr here) (inl there) same exclusive =
          let shared = may.alone e there (subst (λ (z : Grant). same_place e.path e.offset z.path z.offset ≡ true) (sym here) same) in
          absurd (not_both (is_shared g.mode) shared.1 (subst (λ (z : Grant). is_shared z.mode ≡ false) (sym here) exclusive))

      single_by : (k : Grant) → Contains (holdings (seen x)) k ⊎ (g ≡ k) → length (held_by (holdings (seen (add_grant g x))) k.process k.path k.offset) ≡ 1
      single_by k (inl old) =
          held_more x g k.process k.path k.offset
          ∙ (ap (λ n. length (held_by (holdings (seen x)) k.process k.path k.offset) + n) (one_if g k.process k.path k.offset false (apart_from x g k may old))
          ∙ (ap (λ n. n + 0) (h.single k old)))
      single_by k (inr new) =
          subst (λ (z : Grant). length (held_by (holdings (seen (add_grant g x))) z.process z.path z.offset) ≡ 1) new
          (held_more x g g.process g.path g.offset
          ∙ (ap (λ gs. length gs + length (held_by (g ∷ []) g.process g.path g.offset)) (none_counted (counts g.process g.path g.offset) (holdings (seen x)) (λ e there. nobody x g e may there))
          ∙ ap (λ n. 0 + n) (one_if g g.process g.path g.offset true (ap (λ b. b && same_place g.path g.offset g.path g.offset) (number_itself g.process) ∙ one_place g.path g.offset))))

      born_by : (k : Grant) → Contains (holdings (seen x)) k ⊎ (g ≡ k) → k.process < next_child (seen x)
      born_by k (inl old) = h.born k old
      born_by k (inr new) = subst (λ (z : Grant). z.process < next_child (seen x)) new may.born

      again : (k : Grant) (s : Session) → StandsExclusive x.setting (seen x) (heard_by x.input) s (spot_of_grant k) k.lver
          → StandsExclusive x.setting (seen (add_grant g x)) (heard_by x.input) s (spot_of_grant k) k.lver
      again k s stands =
          stands_same x.setting (seen x) (seen (add_grant g x)) (heard_by x.input) (heard_by x.input) s (spot_of_grant k) k.lver refl refl (λ j n is. is) (λ m inside opens. opens) stands

      stands_by : (k : Grant) (s : Session) → Contains (holdings (seen x)) k ⊎ (g ≡ k) → session_numbered x.setting (seen x) k.session ≡ Some s → is_shared k.mode ≡ false
          → StandsExclusive x.setting (seen (add_grant g x)) (heard_by x.input) s (spot_of_grant k) k.lver
      stands_by k s (inl old) its exclusive = again k s (h.stands k s old its exclusive)
      stands_by k s (inr new) its exclusive =
          let is : may.session ≡ s = one_value may.session s (session_numbered x.setting (seen x) g.session) may.its (subst (λ (z : Grant). session_numbered x.setting (seen x) z.session ≡ Some s) (sym new) its) in
          let exact : StandsExclusive x.setting (seen x) (heard_by x.input) may.session (spot_of_grant g) g.lver = may.stands (subst (λ (z : Grant). is_shared z.mode ≡ false) (sym new) exclusive) in
          again k s (subst (λ (z : Grant). StandsExclusive x.setting (seen x) (heard_by x.input) s (spot_of_grant z) z.lver) new
          (subst (λ z. StandsExclusive x.setting (seen x) (heard_by x.input) z (spot_of_grant g) g.lver) is exact))
