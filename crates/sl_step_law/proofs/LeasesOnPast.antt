-- What a lease does next stands on its area, where that stands at a base.
use Rattle.sl_due_facts.proofs.Acts.Pairs.Decisions.{conversion_is, release_is}
use Rattle.sl_due_facts.specs.Acts.Acts.{next_of_conversion, next_of_release}
use Rattle.sl_area.specs.AreaLayout.{block_offset, block_place, is_base}
use Rattle.sl_due.specs.CarriedLease.{carry_lease}
use Rattle.sl_due.specs.Steps.{Step, seen}
use Rattle.sl_due_facts.proofs.Jobs.EffectsAreAllowed.{LeaseAllowed, ReadAllowed, lease}
use Rattle.sl_due_facts.proofs.Jobs.CallsStandInAreas.{at_base, base_whole, roomy, stands_in}
use Rattle.sl_due_facts.proofs.Jobs.NearlyPlainActs.{AnyMove, AnyStart, Anything, grant_plain}
use Rattle.sl_due_facts.proofs.Jobs.RepliesComeAfter.{mapped_or}
use Rattle.sl_due_law.specs.LawfulTraces.CarriedFacts.{Kept}
use Rattle.sl_due_leases.proofs.Holdings.LeasePlaces.{area_is}
use Rattle.sl_trace.specs.Ballots.{moded_block}
use Rattle.sl_trace.specs.LeaseDecisions.{LeasePlace, lease_place}
use Rattle.sl_trace.specs.Conversions.{convert_next}
use Rattle.sl_trace.specs.Releases.{release_next}
use Rattle.sl_trace.specs.Leases.{LeaseKnown, known, spot_of_call}
use Rattle.sl_trace.specs.declared.lease.LeaseNext.{LeaseNext}
use Rattle.sl_trace.specs.declared.lease.LeaseNext.TheVariants.{AnswerJob, BecomeExclusive, BecomeShared, GrantJob, Nothing as No_lease, ReadFor, WriteBlock, WriteLeader}
use Rattle.sl_trace.specs.Sessions.{sessions}
use Rattle.sl_trace.specs.declared.session.Session.{Session}
use Rattle.sl_step_law.proofs.OffsetsAreWhole.{base_at_sector, base_in, block_in, block_whole, first_in, first_whole}
use Rattle.sl_step_law.proofs.PlacesAreKnown.{IsAt, session_at}
use Rattle.sl_step_law.specs.CallsStand.{WroteBlock, looks_before_owed, is_look}
use Rattle.sl_trace.specs.Traces.{Setting, new_call}
use Rattle.sl_trace.specs.declared.effects.Call.{Call}
use Rattle.sl_trace.specs.declared.effects.LeaseRead.TheVariants.{OfArea, OfBlock, OfFree, OfPhase1, OfPhase2}
use Rattle.sl_trace.specs.declared.effects.LeaseStep.{LeaseStep}
use Rattle.sl_trace.specs.declared.effects.LeaseStep.TheVariants.{ClearMode, FreeLeader, Phase1Read, Phase1Write, Phase2Read, Phase2Write, ReadAgain, ReadArea, ReadBeforeBlock, ReadBeforeFree, SetMode, TakeLeader}
use Rattle.sl_trace.specs.declared.effects.Grant.{Grant}
use Rattle.sl_trace.specs.declared.effects.Mode.{Mode}
use Rattle.sl_trace.specs.declared.effects.Mode.TheVariants.{Exclusive, Shared}
use Rattle.sl_trace.specs.declared.effects.Op.{Op}
use Rattle.sl_trace.specs.declared.effects.Purpose.TheVariants.{Lease}
use Rattle.sl_trace.specs.declared.effects.Spot.{Spot}
use Rattle.sl_trace.specs.declared.effects.Work.{Work}
use Rattle.sl_trace.specs.declared.effects.Work.TheVariants.{Settling}
use Rattle.sl_words.proofs.CaseLaws.{true_is_false}
use Rattle.std.proofs.Common.{refl, subst, sym, ◌∙◌}
use Rattle.std.specs.Prelude.{Contains, IsTrue, List, false, true, ℕ, ◌%◌, ◌*◌, ◌+◌, ◌<◌, ◌≡◌}
use Rattle.sl_step_law.proofs.CallsOnPast.{Calls, OnPast, allows, made_as, of_lease}

-- ---- a lease's area

-- The session has written a block on the area, before any call that it makes there.
abbrev pub WroteThere : Step → Session → Spot → Type 0
WroteThere x s at = (c : Call) → c.session ≡ s.number → spot_of_call x.setting.layout (new_call 0 0 c) ≡ at → WroteBlock x.setting x.past c

-- The next call, where it looks before what is owed, has a block behind it.
abbrev pub Owes : Step → Session → Spot → LeaseNext → Type 0
Owes x s at (ReadFor step) = is_look step ≡ true → WroteThere x s at
Owes x s at (WriteBlock step b) = is_look step ≡ false
Owes x s at (WriteLeader step l) = is_look step ≡ false
Owes x s at n = Unit {0}

module _ (x : Step) (k : Kept x) (s : Session) (there : Contains (sessions x.setting (seen x)) s) (spot : Spot) (base : IsTrue (is_base x.setting.layout spot.base)) where
  abbrev pub On : Step → Type 0
  On = OnPast x.setting x.past

  pub head : (work : Work) (step : LeaseStep) (op : Op) → looks_before_owed (Lease work step) ≡ false → Calls x.setting x.past s spot.path (Lease work step) spot.base op
  head work step op unlooked =
      of_lease x.setting x.past s.number spot.path work step spot.base op (base_at_sector x.setting k.known.0.setting spot.base base) (base_in x.setting k.known.0.setting spot.base base)
      (λ is. absurd (true_is_false (sym is ∙ unlooked)))

  whole_base : spot.base % x.setting.layout.area ≡ 0
  whole_base = base_whole x.setting.layout spot.base base

  some_area : 0 < x.setting.layout.area
  some_area = area_is x.setting k.known.0.setting

  -- A look before a free, and one before a block.
  pub looks : (work : Work) (op : Op) → WroteThere x s spot → Calls x.setting x.past s spot.path (Lease work ReadBeforeFree) spot.base op
  looks work op wrote =
      of_lease x.setting x.past s.number spot.path work ReadBeforeFree spot.base op (base_at_sector x.setting k.known.0.setting spot.base base) (base_in x.setting k.known.0.setting spot.base base)
      (λ is. (let c : Call = made_as s.number spot.path (Lease work ReadBeforeFree) spot.base op in wrote c refl (at_base x.setting.layout (new_call 0 0 c) spot some_area whole_base refl refl)))

  pub looks_at_blocks : (y : Step) (work : Work) (op : Op) → y.setting ≡ x.setting → WroteThere x s spot
      → Calls x.setting x.past s spot.path (Lease work ReadBeforeBlock) (block_offset y.setting.layout spot.base 1) op
  looks_at_blocks y work op same wrote =
      subst (λ (st : Setting). Calls x.setting x.past s spot.path (Lease work ReadBeforeBlock) (block_offset st.layout spot.base 1) op) (sym same)
      (of_lease x.setting x.past s.number spot.path work ReadBeforeBlock (block_offset x.setting.layout spot.base 1) op (first_whole x.setting k.known.0.setting spot.base base)
      (first_in x.setting k.known.0.setting spot.base base)
      (λ is. (let c : Call = made_as s.number spot.path (Lease work ReadBeforeBlock) (block_offset x.setting.layout spot.base 1) op in
      wrote c refl (stands_in x.setting.layout (new_call 0 0 c) spot (x.setting.layout.sector * (1 + 1)) whole_base (roomy x.setting k.known.0.setting).first refl refl))))

  -- All blocks.
  pub blocks : (y : Step) (work : Work) (step : LeaseStep) (op : Op) → y.setting ≡ x.setting → looks_before_owed (Lease work step) ≡ false
      → Calls x.setting x.past s spot.path (Lease work step) (block_offset y.setting.layout spot.base 1) op
  blocks y work step op same unlooked =
      subst (λ (st : Setting). Calls x.setting x.past s spot.path (Lease work step) (block_offset st.layout spot.base 1) op) (sym same)
      (of_lease x.setting x.past s.number spot.path work step (block_offset x.setting.layout spot.base 1) op (first_whole x.setting k.known.0.setting spot.base base)
      (first_in x.setting k.known.0.setting spot.base base) (λ is. absurd (true_is_false (sym is ∙ unlooked))))

  pub placed : IsAt x.setting.layout s
  placed = session_at x.setting (seen x) s k.known.0.setting there

  -- The own block, at the place of its turn.
  pub own_block : (y : Step) (work : Work) (step : LeaseStep) (turn : ℕ) (op : Op) → y.setting ≡ x.setting → looks_before_owed (Lease work step) ≡ false
      → Calls x.setting x.past s spot.path (Lease work step) (block_place y.setting.layout spot.base s.id turn) op
  own_block y work step turn op same unlooked =
      subst (λ (st : Setting). Calls x.setting x.past s spot.path (Lease work step) (block_place st.layout spot.base s.id turn) op) (sym same)
      (of_lease x.setting x.past s.number spot.path work step (block_place x.setting.layout spot.base s.id turn) op (block_whole x.setting k.known.0.setting spot.base base s.id turn)
      (block_in x.setting k.known.0.setting spot.base base s.id turn placed.1) (λ is. absurd (true_is_false (sym is ∙ unlooked))))

  reads : (y : Step) (work : Work) (step : LeaseStep) → y.setting ≡ x.setting → Owes x s spot (ReadFor step) → ReadAllowed (Calls x.setting x.past) y s spot work step
  reads y work (ReadArea name) same owes = head work (ReadArea name) _ refl
  reads y work ReadBeforeFree same owes = looks work _ (owes refl)
  reads y work ReadBeforeBlock same owes = looks_at_blocks y work _ same (owes refl)
  reads y work (ReadAgain (OfArea name)) same owes = head work (ReadAgain (OfArea name)) _ refl
  reads y work (ReadAgain OfFree) same owes = head work (ReadAgain OfFree) _ refl
  reads y work (ReadAgain OfBlock) same owes = blocks y work (ReadAgain OfBlock) _ same refl
  reads y work (ReadAgain OfPhase1) same owes = blocks y work (ReadAgain OfPhase1) _ same refl
  reads y work (ReadAgain OfPhase2) same owes = blocks y work (ReadAgain OfPhase2) _ same refl
  reads y work Phase1Write same owes = blocks y work Phase1Write _ same refl
  reads y work Phase1Read same owes = blocks y work Phase1Read _ same refl
  reads y work Phase2Write same owes = blocks y work Phase2Write _ same refl
  reads y work Phase2Read same owes = blocks y work Phase2Read _ same refl
  reads y work TakeLeader same owes = blocks y work TakeLeader _ same refl
  reads y work SetMode same owes = blocks y work SetMode _ same refl
  reads y work FreeLeader same owes = blocks y work FreeLeader _ same refl
  reads y work ClearMode same owes = blocks y work ClearMode _ same refl

  abbrev Allowed : Step → Work → LeaseNext → Type 0
  Allowed y work n = LeaseAllowed Anything (Calls x.setting x.past) AnyStart y s spot work n

  releases : (y : Step) (work : Work) (p : LeasePlace) (q : LeaseKnown) (mode : Mode) (lver : ℕ) → y.setting ≡ x.setting → Allowed y work (release_next p q mode lver)
  releases y work p q Exclusive lver same = head work FreeLeader _ refl
  releases y work p q Shared lver same = mapped_or (Allowed y work) (λ own. WriteBlock ClearMode (moded_block own false 0)) q.own No_lease (λ own. own_block y work ClearMode _ _ same refl) tt

  converting : (y : Step) (work : Work) (q : LeaseKnown) (mode : Mode) (name : List ℕ) → y.setting ≡ x.setting → Allowed y work (convert_next q mode name)
  converting y work q Exclusive name same = head work (ReadArea name) _ refl
  converting y work q Shared name same =
      mapped_or (Allowed y work) (λ own. WriteBlock SetMode (moded_block own true q.self.generation)) q.own No_lease (λ own. own_block y work SetMode _ _ same refl) tt

  -- As it is decided, within the limit of turns.
  pub released : (y : Step) (work : Work) (at : Spot) (g : Grant) → y.setting ≡ x.setting → Allowed y work (next_of_release y.setting (seen y) s at g)
  released y work at g same =
      release_is (Allowed y work) y.setting (seen y) s at g (λ fits. releases y work (lease_place y.setting s) (known y.setting (seen y) s at) g.mode g.lver same) (λ paired over writes j is. tt)

  pub turned : (y : Step) (work : Work) (at : Spot) (mode : Mode) (name : List ℕ) → y.setting ≡ x.setting → Allowed y work (next_of_conversion y.setting (seen y) s at mode name)
  turned y work at mode name same =
      conversion_is (Allowed y work) y.setting (seen y) s at mode name (λ fits. converting y work (known y.setting (seen y) s at) mode name same) (λ paired over writes j is. tt)

  -- Whatever it does next.
  pub carried : (y : Step) (work : Work) (n : LeaseNext) → On y → Owes x s spot n → On (carry_lease s spot work n y)
  unfolding carry_lease
  carried y work No_lease h owes = h
  carried y work (ReadFor step) h owes = lease On On Anything (Calls x.setting x.past) AnyStart AnyMove (allows x.setting x.past) y s spot work (ReadFor step) (reads y work step h.setting owes) h
  carried y work (WriteBlock step b) h owes =
      lease On On Anything (Calls x.setting x.past) AnyStart AnyMove (allows x.setting x.past) y s spot work (WriteBlock step b) (own_block y work step _ _ h.setting owes) h
  carried y work (WriteLeader step l) h owes = lease On On Anything (Calls x.setting x.past) AnyStart AnyMove (allows x.setting x.past) y s spot work (WriteLeader step l) (head work step _ owes) h
  carried y work (AnswerJob r) h owes = lease On On Anything (Calls x.setting x.past) AnyStart AnyMove (allows x.setting x.past) y s spot work (AnswerJob r) (λ j is. tt) h
  carried y work (GrantJob mode lver) h owes =
      lease On On Anything (Calls x.setting x.past) AnyStart AnyMove (allows x.setting x.past) y s spot work (GrantJob mode lver) (λ j c is reads. grant_plain j lver c) h
  carried y work (BecomeShared lver l) h owes =
      lease On On Anything (Calls x.setting x.past) AnyStart AnyMove (allows x.setting x.past) y s spot work (BecomeShared lver l) ((λ j is. tt), head Settling FreeLeader _ refl) h
  carried y work (BecomeExclusive lver b) h owes =
      lease On On Anything (Calls x.setting x.past) AnyStart AnyMove (allows x.setting x.past) y s spot work (BecomeExclusive lver b)
      ((λ j is. tt), λ z same. own_block z Settling ClearMode _ _ (same ∙ h.setting) refl) h
