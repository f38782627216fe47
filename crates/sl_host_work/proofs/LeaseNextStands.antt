-- A lease decides by what its host keeps.
use Rattle.sl_area.specs.AreaSizes.{Layout, Sizes, layout_of}
use Rattle.sl_host.specs.BookQuestions.{state_in}
use Rattle.sl_host.specs.declared.told_answers.Told.TheVariants.{Again, Gave}
use Rattle.sl_host.specs.declared.told_answers.Told.{Told}
use Rattle.sl_host_law.specs.Questions.Answers.{place_in}
use Rattle.sl_host_law.specs.Questions.Members.{exclusive_at, over_in}
use Rattle.sl_host_law.specs.Steps.Leases.{answered_next, blocks_at, converting_next, kept_blocks, known_by, lease_at, releasing_next, settling_next}
use Rattle.sl_host_state.specs.KeptState.{HostKept, HostState, LeaseState, MemberState}
use Rattle.sl_host_state.specs.HostStands.{first_read, turn_kept}
use Rattle.sl_host_state.specs.declared.kept_parts.OpenCall.{OpenCall}
use Rattle.sl_host_work.proofs.NextLaws.{converts_named, fits_within, leases_are_of_held, read_named, releases_named, settles_named, written_named}
use Rattle.sl_host_work.proofs.ReadsGive.{asked_is, blocks_given, given_told, leader_of_area, leader_told, once_told}
use Rattle.sl_host_work.specs.LeaseQuestions.{IsNamedFor, IsShown, MayAsk, MayTurn, ReadStands, asked_next}
use Rattle.sl_host_work.specs.LeaseWork.{held_with}
use Rattle.sl_host_work.specs.NextDecisions.{IsFit, IsOfHeld, writes_own_block}
use Rattle.sl_lease.specs.LeaseQuestions.{TopStands, read_asked, read_given}
use Rattle.sl_lease.specs.Bounds.{IsInstance}
use Rattle.sl_lease.specs.Side.{is_named, known_with, place_of}
use Rattle.sl_lease.specs.Steps.{IsFitNext, is_first_step}
use Rattle.sl_lease.specs.declared.outer_facts.Held.{Held}
use Rattle.sl_lease.specs.declared.side.Side.{Side}
use Rattle.sl_member.specs.Members.{MemberKept, owner_in, seen_in, side_in}
use Rattle.sl_member.specs.SeenSessions.{SeenBy, over_by}
use Rattle.sl_sector.specs.Records.{Fits}
use Rattle.sl_sector.specs.declared.sector.Block.{Block}
use Rattle.sl_sector.specs.declared.sector.Leader.{Leader}
use Rattle.sl_trace.specs.LeaseDecisions.{LeasePlace, after_write, asked_again, lease_next, settle_begin, within_turn}
use Rattle.sl_trace.specs.Conversions.{convert_next}
use Rattle.sl_trace.specs.Releases.{release_next}
use Rattle.sl_trace.specs.Leases.{LeaseKnown}
use Rattle.sl_trace.specs.declared.lease.Aim.TheVariants.{Converts, Releases, Settles}
use Rattle.sl_trace.specs.declared.lease.Aim.{Aim}
use Rattle.sl_trace.specs.declared.lease.LeaseNext.TheVariants.{AnswerJob, BecomeExclusive, BecomeShared, GrantJob, Nothing, ReadFor, WriteBlock, WriteLeader}
use Rattle.sl_trace.specs.declared.lease.LeaseNext.{LeaseNext}
use Rattle.sl_trace.specs.declared.effects.Grant.{Grant}
use Rattle.sl_trace.specs.declared.effects.LeaseRead.{LeaseRead}
use Rattle.sl_trace.specs.declared.effects.LeaseStep.{LeaseStep}
use Rattle.sl_trace.specs.declared.effects.Mode.{Mode}
use Rattle.sl_trace.specs.declared.effects.Purpose.TheVariants.{Survey}
use Rattle.sl_trace.specs.declared.effects.Spot.{Spot}
use Rattle.sl_trace.specs.declared.input.Answer.TheVariants.{Read, Written}
use Rattle.sl_trace.specs.declared.input.Answer.{Answer}
use Rattle.sl_words.proofs.CaseLaws.{false_is_true}
use Rattle.sl_words.specs.Bounds.{is_number}
use Rattle.std.proofs.Common.{ap, arith, refl, subst, sym, ◌∙◌}
use Rattle.std.proofs.lemmas.Bool.Decides.{nat_tests}
use Rattle.std.specs.Prelude.{Bool, IfSome, IsTrue, List, None, Option, Some, [], is_some, option_map, true, ℕ, ◌+◌, ◌||◌, ◌≡◌}

-- What may be done next is fit, where a holding that becomes shared is of an instance.
fit_by : (held : Option ℕ) (next : LeaseNext) → IsFitNext next → IsOfHeld held next → IfSome held IsInstance → IsFit next
fit_by held Nothing fit of instance = tt
fit_by held (ReadFor step) fit of instance = tt
fit_by held (WriteBlock step b) fit of instance = fit.1
fit_by held (WriteLeader step l) fit of instance = fit.1.lver.1
fit_by held (AnswerJob r) fit of instance = of
fit_by held (GrantJob mode lver) fit of instance = tt
fit_by held (BecomeShared lver l) fit of instance = (fit (subst (λ o. IfSome o IsInstance) of instance)).lver.1
fit_by held (BecomeExclusive lver b) fit of instance = fit.1

mapped : (o : Option Grant) → IfSome o (λ g. IsInstance g.lver) → IfSome (option_map (λ g. g.lver) o) IsInstance
mapped None is = tt
mapped (Some g) is = is

pub fit_next : (h : HostState) (m : MemberState) (at : Spot) (read : List (Option Block)) (next target : LeaseNext) → MayAsk h m at read → next ≡ target → IsFitNext next
    → IsOfHeld (option_map (λ g. g.lver) (exclusive_at h m at)) target → IsFit next
fit_next h m at read next target may is fit of =
    let held : Option ℕ = option_map (λ g. g.lver) (exclusive_at h m at) in
    let P : LeaseNext → Type 0 = λ n. IsOfHeld held n in
    fit_by held next fit (subst P (sym is) of) (mapped (exclusive_at h m at) may.held)

-- ---- by what is kept

-- What a member's lease is asked with.
pub record IsKeptSo (k : HostKept) (m : MemberKept) (at : Spot) (z : Side) (l : LeaseState) (held : Held) : Type 0 where
  pub run : m.run.sizes ≡ k.config.sizes
  pub side : z ≡ side_in m
  pub lease : l ≡ lease_at m.state at
  pub under : held ≡ held_with m.state.who.number at k.holdings

abbrev side_at : Sizes → MemberState → Side
side_at z m = record { geometry = z; lockspace = m.who.lockspace; me = owner_in m }

module _ (k : HostKept) (m : MemberKept) (at : Spot) (z : Side) (l : LeaseState) (held : Held) (next : LeaseNext) (s : IsKeptSo k m at z l held) where
  sides : z ≡ side_at k.config.sizes m.state
  sides = s.side ∙ ap (λ (y : Sizes). side_at y m.state) s.run

  tops_at : (read : List (Option Block)) → MayAsk (state_in k) m.state at read → TopStands l read
  tops_at read may = let T : LeaseState → Type 0 = λ v. TopStands v read in subst T (sym s.lease) may.tops

  named_at : (f : LeaseState → Bool) → IsTrue (f (lease_at m.state at)) → IsTrue (f l)
  named_at f is = let N : LeaseState → Type 0 = λ v. IsTrue (f v) in subst N (sym s.lease) is

  pub settles : MayAsk (state_in k) m.state at (kept_blocks (lease_at m.state at))
      → ((over : ℕ → ℕ → Bool) (read : List (Option Block)) → TopStands l read
      → next ≡ within_turn (place_of z) (known_with z l held over read) Settles (settle_begin (place_of z) (known_with z l held over read)))
      → next ≡ settling_next (state_in k) m.state at
  settles may exact =
      let read : List (Option Block) = kept_blocks (lease_at m.state at) in
      let known : Side → LeaseState → Held → LeaseKnown = λ y v u. known_with y v u (over_in m.state) read in
      exact (over_in m.state) read (tops_at read may)
      ∙ (λ i. within_turn (place_of (sides i)) (known (sides i) (s.lease i) (s.under i)) Settles (settle_begin (place_of (sides i)) (known (sides i) (s.lease i) (s.under i))))

  pub releases : (g : Grant) → IsTrue (is_named (lease_at m.state at))
      → (IsTrue (is_named l) → (h : Held) (over : ℕ → ℕ → Bool) (read : List (Option Block))
      → next ≡ within_turn (place_of z) (known_with z l h over read) Releases (release_next (place_of z) (known_with z l h over read) g.mode g.lver))
      → next ≡ releasing_next (state_in k) m.state at g
  releases g named exact =
      let read : List (Option Block) = kept_blocks (lease_at m.state at) in
      let known : Side → LeaseState → Held → LeaseKnown = λ y v u. known_with y v u (over_in m.state) read in
      exact (named_at is_named named) held (over_in m.state) read
      ∙ (λ i. within_turn (place_of (sides i)) (known (sides i) (s.lease i) (s.under i)) Releases (release_next (place_of (sides i)) (known (sides i) (s.lease i) (s.under i)) g.mode g.lver))

  pub converts : (mode : Mode) (name : List ℕ)
      → ((h : Held) (over : ℕ → ℕ → Bool) (read : List (Option Block))
      → next ≡ within_turn (place_of z) (known_with z l h over read) (Converts mode) (convert_next (known_with z l h over read) mode name))
      → next ≡ converting_next (state_in k) m.state at mode name
  converts mode name exact =
      let read : List (Option Block) = kept_blocks (lease_at m.state at) in
      let known : Side → LeaseState → Held → LeaseKnown = λ y v u. known_with y v u (over_in m.state) read in
      exact held (over_in m.state) read
      ∙ (λ i. within_turn (place_of (sides i)) (known (sides i) (s.lease i) (s.under i)) (Converts mode) (convert_next (known (sides i) (s.lease i) (s.under i)) mode name))

  pub writes : (c : OpenCall) (aim : Aim) (step : LeaseStep) → MayAsk (state_in k) m.state at (kept_blocks (lease_at m.state at)) → IsNamedFor m.state at step
      → (IsTrue (is_first_step step || is_named l) → (over : ℕ → ℕ → Bool) (read : List (Option Block)) → TopStands l read
      → next ≡ within_turn (place_of z) (known_with z l held over read) aim (after_write (place_of z) (known_with z l held over read) aim c.lver step))
      → next ≡ answered_next (state_in k) m.state at c aim step Written
  unfolding lease_next
  writes c aim step may named exact =
      let read : List (Option Block) = kept_blocks (lease_at m.state at) in
      let known : Side → LeaseState → Held → LeaseKnown = λ y v u. known_with y v u (over_in m.state) read in
      exact (named_at (λ v. is_first_step step || is_named v) named) (over_in m.state) read (tops_at read may)
      ∙ (λ i. within_turn (place_of (sides i)) (known (sides i) (s.lease i) (s.under i)) aim (after_write (place_of (sides i)) (known (sides i) (s.lease i) (s.under i)) aim c.lver step))

  -- After a read that gave these, which the session has seen so.
  pub reads : (seen : SeenBy) → seen ≡ seen_in m.state → (aim : Aim) (step : LeaseStep) (leader : Option Leader) (read : List (Option Block)) → MayAsk (state_in k) m.state at read
      → IsNamedFor m.state at step
      → (IsTrue (is_first_step step || is_named l) → TopStands l read
      → next ≡ within_turn (place_of z) (known_with z l held (over_by seen) read) aim (read_asked (place_of z) (known_with z l held (over_by seen) read) aim leader read step))
      → next ≡ asked_next (state_in k) m.state at aim step leader read
  reads seen sees aim step leader read may named exact =
      let known : Side → LeaseState → Held → SeenBy → LeaseKnown = λ y v u w. known_with y v u (over_by w) read in
      exact (named_at (λ v. is_first_step step || is_named v) named) (tops_at read may)
      ∙ (λ i. within_turn (place_of (sides i)) (known (sides i) (s.lease i) (s.under i) (sees i)) aim
      (read_asked (place_of (sides i)) (known (sides i) (s.lease i) (s.under i) (sees i)) aim leader read step))

-- ---- what may be done

-- A number that is within its limit fits a record.
fits_number : (n : ℕ) → is_number n ≡ true → Fits n
fits_number n is = grind (arith, nat_tests)

module _ (z : Sizes) (h : HostState) (m : MemberState) (at : Spot) (read : List (Option Block)) (next : LeaseNext) (may : MayAsk h m at read) where
  -- What writes the own block does so with a turn, of a resource whose name is verified.
  turned_by : (p : LeasePlace) (k : LeaseKnown) (aim : Aim) (decided : LeaseNext) → p.layout.paired ≡ z.paired → k.turn ≡ turn_kept (lease_at m at).pair → next ≡ within_turn p k aim decided
      → (writes_own_block (within_turn p k aim decided) ≡ true → IsTrue (is_named (lease_at m at))) → writes_own_block next ≡ true → MayTurn z m at
  turned_by p k aim decided pairs turn is named writes paired =
      let so : writes_own_block (within_turn p k aim decided) ≡ true = sym (ap writes_own_block is) ∙ writes in
      (subst (λ n. Fits (n + 1)) turn (fits_number (k.turn + 1) (fits_within p k aim decided so (pairs ∙ paired))), named so)

  abbrev known : List (Option Block) → LeaseKnown
  known blocks = known_by h m at (lease_at m at) blocks

  abbrev Named : Type 0
  Named = IsTrue (is_named (lease_at m at))

  pub settles_turned : h.config.layout.paired ≡ z.paired → next ≡ settling_next h m at → writes_own_block next ≡ true → MayTurn z m at
  settles_turned pairs is =
      turned_by (place_in h m) (known (kept_blocks (lease_at m at))) Settles (settle_begin (place_in h m) (known (kept_blocks (lease_at m at)))) pairs refl is
      (settles_named (place_in h m) (known (kept_blocks (lease_at m at))) Named may.owned.named may.owned.opened)

  pub releases_turned : (g : Grant) → h.config.layout.paired ≡ z.paired → next ≡ releasing_next h m at g → writes_own_block next ≡ true → MayTurn z m at
  releases_turned g pairs is =
      turned_by (place_in h m) (known (kept_blocks (lease_at m at))) Releases (release_next (place_in h m) (known (kept_blocks (lease_at m at))) g.mode g.lver) pairs refl is
      (releases_named (place_in h m) (known (kept_blocks (lease_at m at))) Named may.owned.named may.owned.opened g.mode g.lver)

  pub converts_turned : (mode : Mode) (name : List ℕ) → h.config.layout.paired ≡ z.paired → next ≡ converting_next h m at mode name → writes_own_block next ≡ true → MayTurn z m at
  converts_turned mode name pairs is =
      turned_by (place_in h m) (known (kept_blocks (lease_at m at))) (Converts mode) (convert_next (known (kept_blocks (lease_at m at))) mode name) pairs refl is
      (converts_named (place_in h m) (known (kept_blocks (lease_at m at))) Named may.owned.named may.owned.opened mode name)

  pub writes_turned : (c : OpenCall) (aim : Aim) (step : LeaseStep) → h.config.layout.paired ≡ z.paired → next ≡ answered_next h m at c aim step Written → writes_own_block next ≡ true → MayTurn z m at
  writes_turned c aim step pairs is =
      turned_by (place_in h m) (known (kept_blocks (lease_at m at))) aim (lease_next (place_in h m) (known (kept_blocks (lease_at m at))) aim c.number c.lver step Written) pairs refl is
      (written_named (place_in h m) (known (kept_blocks (lease_at m at))) Named may.owned.named may.owned.opened aim c.number c.lver step)

  pub reads_turned : (c : OpenCall) (aim : Aim) (step : LeaseStep) (bytes : List ℕ) → h.config.layout.paired ≡ z.paired → ReadStands h.config.layout m at step bytes
      → next ≡ answered_next h m at c aim step (Read bytes) → writes_own_block next ≡ true → MayTurn z m at
  reads_turned c aim step bytes pairs stands is =
      let k : LeaseKnown = known (blocks_at h.config.layout (lease_at m at) step (Read bytes)) in
      turned_by (place_in h m) k aim (lease_next (place_in h m) k aim c.number c.lver step (Read bytes)) pairs refl is
      (read_named (place_in h m) k Named may.owned.named may.owned.opened aim c.number c.lver step bytes
      (λ once name l at gives its. stands.verified name l at once (leader_of_area h.config.layout k bytes step name l at gives) its))

module _ (h : HostState) (m : MemberState) (at : Spot) (read : List (Option Block)) (next : LeaseNext) (may : MayAsk h m at read) (fit : IsFitNext next) where
  pub settles_fit : next ≡ settling_next h m at → IsFit next
  settles_fit is = fit_next h m at read next (settling_next h m at) may is fit (leases_are_of_held.settles (place_in h m) (known_by h m at (lease_at m at) (kept_blocks (lease_at m at))))

  pub releases_fit : (g : Grant) → next ≡ releasing_next h m at g → IsFit next
  releases_fit g is =
      fit_next h m at read next (releasing_next h m at g) may is fit (leases_are_of_held.releases (place_in h m) (known_by h m at (lease_at m at) (kept_blocks (lease_at m at))) g.mode g.lver)

  pub converts_fit : (mode : Mode) (name : List ℕ) → next ≡ converting_next h m at mode name → IsFit next
  converts_fit mode name is =
      fit_next h m at read next (converting_next h m at mode name) may is fit (leases_are_of_held.converts (place_in h m) (known_by h m at (lease_at m at) (kept_blocks (lease_at m at))) mode name)

  pub answers_fit : (c : OpenCall) (aim : Aim) (step : LeaseStep) (a : Answer) → next ≡ answered_next h m at c aim step a → IsFit next
  answers_fit c aim step a is =
      fit_next h m at read next (answered_next h m at c aim step a) may is fit
      (leases_are_of_held.answered (place_in h m) (known_by h m at (lease_at m at) (blocks_at h.config.layout (lease_at m at) step a)) aim c.number c.lver step a)

-- ---- after a read

-- Any call: what comes after a read asks nothing of it.
pub some_call : OpenCall
some_call = record { number = 0; session = 0; purpose = Survey; path = []; offset = 0; sectors = None; lver = 0; value = None; reading = 0 }

-- What the bytes make due that gave leader and blocks.
pub asked_read : (k : HostKept) (m : MemberState) (at : Spot) (c : OpenCall) (aim : Aim) (step : LeaseStep) (bytes : List ℕ) (told : Told) (blocks : List (Option Block)) (leader : Option Leader)
    → IsShown k.config.sizes m at step bytes told blocks → told ≡ Gave leader → asked_next (state_in k) m at aim step leader blocks ≡ answered_next (state_in k) m at c aim step (Read bytes)
asked_read k m at c aim step bytes told blocks leader s so =
    let g : Layout = layout_of k.config.sizes in
    let p : LeasePlace = place_in (state_in k) m in
    let known : List (Option Block) → LeaseKnown = known_by (state_in k) m at (lease_at m at) in
    let given : List (Option Block) = read_given g (first_read (lease_at m at).pair) step bytes in
    (λ i. asked_next (state_in k) m at aim step (leader_told k.config.sizes m at step bytes told blocks s leader so i) (given_told k.config.sizes m at step bytes told blocks s leader so i))
    ∙ ap (λ n. within_turn p (known given) aim n) (asked_is p (known given) aim bytes c.number c.lver step (once_told k.config.sizes m at step bytes told blocks s leader so))
    ∙ ap (λ bs. within_turn p (known bs) aim (lease_next p (known bs) aim c.number c.lver step (Read bytes)))
    (blocks_given g (lease_at m at) step bytes s.known.reads (once_told k.config.sizes m at step bytes told blocks s leader so) s.known.again s.known.kept)

-- Where it is to be made once more: what comes after a first read.
pub asked_again_so : (k : HostKept) (m : MemberState) (at : Spot) (c : OpenCall) (aim : Aim) (step : LeaseStep) (bytes : List ℕ) (told : Told) (blocks : List (Option Block)) (next : LeaseNext)
    → IsShown k.config.sizes m at step bytes told blocks → told ≡ Again
    → ((p : LeasePlace) (n : LeaseKnown) (a : Aim) (call lver : ℕ) (bs : List ℕ) (read : LeaseRead) → asked_again p.layout bs step ≡ Some read
    → next ≡ within_turn p n a (lease_next p n a call lver step (Read bs))) → next ≡ answered_next (state_in k) m at c aim step (Read bytes)
asked_again_so k m at c aim step bytes told blocks next s so decides =
    by (asked_again (layout_of k.config.sizes) bytes step) refl (s.told.again so)
  where
    known : LeaseKnown
    known = known_by (state_in k) m at (lease_at m at) (blocks_at (layout_of k.config.sizes) (lease_at m at) step (Read bytes))

    by : (o : Option LeaseRead) → asked_again (layout_of k.config.sizes) bytes step ≡ o → is_some o ≡ true → next ≡ answered_next (state_in k) m at c aim step (Read bytes)
    by None is none = absurd (false_is_true none)
    by (Some read) is some = decides (place_in (state_in k) m) known aim c.number c.lver bytes read is
