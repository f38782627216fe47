-- What is decided after any answer to the lease's newest call fits; and so does what a release and a conversion begin with.
use Rattle.sl_due_facts.proofs.Acts.Pairs.Decisions.{IsAsked, asked_is, bytes_are}
use Rattle.sl_due_facts.proofs.Acts.Pairs.GivenByReads.{bytes_at}
use Rattle.sl_area.specs.AreaSizes.{Layout}
use Rattle.sl_area.specs.Pairs.{BlocksRead, blocks_of}
use Rattle.sl_area.specs.TornLeader.{leader_read}
use Rattle.sl_due_facts.specs.Facts.WayFacts.{In_conversion, In_release, sectors_of_read}
use Rattle.sl_due_leases.proofs.Ways.GivenReads.{blocks_heard}
use Rattle.sl_due_leases.proofs.Ways.WayStages.{read_step}
use Rattle.sl_due_leases.proofs.Ways.NextsFit.AreaReadsFit.{area_is, heard_gave, heard_given}
use Rattle.sl_due_leases.proofs.Ways.NextsFit.PhasesFit.{PhaseHeard, heard_comes, heard_done, heard_heeded, phase1_read_is, phase2_read_is}
use Rattle.sl_due_leases.proofs.Ways.NextsFit.SettlingsFit.{refusal_is, settling_is}
use Rattle.sl_due_leases.proofs.Ways.NextsFit.WritesFit.{before_block_is, before_free_is, clearing_is, freeing_is, moding_is, take_is}
use Rattle.sl_due_leases.specs.Ways.Nexts.{IsHeard, Moment, NextIs, calls_at, context_at, known_at, place_at, read_op}
use Rattle.sl_due_leases.specs.Ways.WayLaws.{AnswersFit, ConversionsFit, ReleasesFit, SettlingsFit}
use Rattle.sl_sector.specs.declared.sector.Block.{Block}
use Rattle.sl_trace.specs.Ballots.{moded_block}
use Rattle.sl_trace.specs.LeaseDecisions.{after_read, asked_again, first_step, heard, lease_next, part_read, read_of_step, step_of_read}
use Rattle.sl_trace.specs.Leases.{block_submitted, known, lver_written, read_given}
use Rattle.sl_trace.specs.Traces.{Setting}
use Rattle.sl_trace.specs.declared.effects.LeaseRead.TheVariants.{OfArea, OfBlock, OfFree, OfPhase1, OfPhase2}
use Rattle.sl_trace.specs.declared.effects.LeaseRead.{LeaseRead}
use Rattle.sl_trace.specs.declared.effects.LeaseStep.TheVariants.{ClearMode, FreeLeader, Phase1Read, Phase1Write, Phase2Read, Phase2Write, ReadAgain, ReadArea, ReadBeforeBlock, ReadBeforeFree, SetMode, TakeLeader}
use Rattle.sl_trace.specs.declared.effects.LeaseStep.{LeaseStep}
use Rattle.sl_trace.specs.declared.effects.Mode.TheVariants.{Exclusive, Shared}
use Rattle.sl_trace.specs.declared.effects.Op.TheVariants.{ReadSectors}
use Rattle.sl_trace.specs.declared.effects.Purpose.TheVariants.{Lease}
use Rattle.sl_trace.specs.declared.input.Answer.TheVariants.{Failed, Read, Written}
use Rattle.sl_trace.specs.declared.lease.Aim.TheVariants.{Converts}
use Rattle.sl_trace.specs.declared.lease.Aim.{Aim}
use Rattle.sl_trace.specs.declared.lease.LeaseNext.TheVariants.{Nothing, ReadFor, WriteBlock}
use Rattle.sl_trace.specs.declared.reply.Reply.TheVariants.{IoFault}
use Rattle.std.proofs.Common.{ap, refl, sym, ◌∙◌}
use Rattle.std.specs.Option.{option_map_or}
use Rattle.std.specs.Prelude.{List, None, Option, Some, false, is_some, true, ℕ, ◌≡◌}

-- ---- answers

-- What a read by its bytes leads to, where it isn't made once more.
after_is : (x : Moment) (aim : Aim) (bytes : List ℕ) (made : LeaseStep) → IsHeard x made aim (Read bytes) → asked_again x.setting.layout bytes made ≡ None → (r : BlocksRead) → heard x.setting.layout (known_at x) bytes made ≡ r
    → NextIs x (after_read (place_at x) (known_at x) aim (leader_read x.setting.layout bytes r) (blocks_of x.setting.layout r) (first_step made))
after_is x aim bytes made h once r all = by made h once (heard_given x made aim bytes h) all where
  phase : (m step : LeaseStep) → (k : IsHeard x m aim (Read bytes)) → first_step m ≡ step → read_given x.setting.layout k.call k.rest ≡ Some r → PhaseHeard x step aim (blocks_of x.setting.layout r)
  phase m step k is given = record { made = m; bytes = bytes; heard = k; is = is; given = blocks_heard x.setting.layout k.call k.rest r given }

  by : (m : LeaseStep) → (k : IsHeard x m aim (Read bytes)) → asked_again x.setting.layout bytes m ≡ None
      → (is_some (read_of_step (first_step m)) ≡ true → asked_again x.setting.layout bytes m ≡ None → read_given x.setting.layout k.call k.rest ≡ Some (heard x.setting.layout (known_at x) bytes m))
      → heard x.setting.layout (known_at x) bytes m ≡ r
      → NextIs x (after_read (place_at x) (known_at x) aim (leader_read x.setting.layout bytes r) (blocks_of x.setting.layout r) (first_step m))
  by (ReadArea name) k enough given is =
      area_is x aim name bytes r (record { made = ReadArea name; heard = k; sought = refl; area = refl; given = given refl enough ∙ ap (λ z. Some z) is })
  by (ReadAgain (OfArea name)) k enough given is =
      area_is x aim name bytes r (record { made = ReadAgain (OfArea name); heard = k; sought = refl; area = refl; given = given refl enough ∙ ap (λ z. Some z) is })
  by ReadBeforeFree k enough given is = before_free_is x ReadBeforeFree aim bytes refl k
  by (ReadAgain OfFree) k enough given is = before_free_is x (ReadAgain OfFree) aim bytes refl k
  by ReadBeforeBlock k enough given is = before_block_is x ReadBeforeBlock aim bytes refl k
  by (ReadAgain OfBlock) k enough given is = before_block_is x (ReadAgain OfBlock) aim bytes refl k
  by Phase1Read k enough given is = phase1_read_is x aim (blocks_of x.setting.layout r) (phase Phase1Read Phase1Read k refl (given refl enough ∙ ap (λ z. Some z) is))
  by (ReadAgain OfPhase1) k enough given is = phase1_read_is x aim (blocks_of x.setting.layout r) (phase (ReadAgain OfPhase1) Phase1Read k refl (given refl enough ∙ ap (λ z. Some z) is))
  by Phase2Read k enough given is = phase2_read_is x aim (blocks_of x.setting.layout r) (phase Phase2Read Phase2Read k refl (given refl enough ∙ ap (λ z. Some z) is))
  by (ReadAgain OfPhase2) k enough given is = phase2_read_is x aim (blocks_of x.setting.layout r) (phase (ReadAgain OfPhase2) Phase2Read k refl (given refl enough ∙ ap (λ z. Some z) is))
  by Phase1Write k enough given is = tt
  by Phase2Write k enough given is = tt
  by TakeLeader k enough given is = tt
  by SetMode k enough given is = tt
  by FreeLeader k enough given is = tt
  by ClearMode k enough given is = tt

-- ---- a read that is made once more

again_op : (st : Setting) (read : LeaseRead) → read_op st (ReadAgain read) ≡ ReadSectors (sectors_of_read st.layout read)
again_op st (OfArea name) = refl
again_op st OfFree = refl
again_op st OfBlock = refl
again_op st OfPhase1 = refl
again_op st OfPhase2 = refl

is_read : (read : LeaseRead) → is_some (read_of_step (first_step (step_of_read read))) ≡ true
is_read (OfArea name) = refl
is_read OfFree = refl
is_read OfBlock = refl
is_read OfPhase1 = refl
is_read OfPhase2 = refl

first_itself : (read : LeaseRead) → first_step (step_of_read read) ≡ step_of_read read
first_itself (OfArea name) = refl
first_itself OfFree = refl
first_itself OfBlock = refl
first_itself OfPhase1 = refl
first_itself OfPhase2 = refl

again_is : (x : Moment) (aim : Aim) (bytes : List ℕ) (made : LeaseStep) → IsHeard x made aim (Read bytes) → (read : LeaseRead) → asked_again x.setting.layout bytes made ≡ Some read → NextIs x (ReadFor (ReadAgain read))
again_is x aim bytes made h read asked c op =
    let g : Layout = x.setting.layout in
    let why : IsAsked g bytes made read = asked_is g bytes made read asked in
    let same : made ≡ step_of_read read = read_step made read why.first in
    let its : h.call.call.purpose ≡ Lease x.work (step_of_read read) = h.its ∙ ap (λ z. Lease x.work z) same in
    record {
      paired = why.paired;
      after = record { prior = h.call; rest = h.rest; before = h.newest; its = its };
      bytes = part_read g bytes made;
      torn = (
        bytes_at g h.call x.work (step_of_read read) bytes its (is_read read) (heard_gave x made aim bytes h)
            ∙ ap (λ z. let o : Option (List ℕ) = Some (part_read g bytes z) in o) (first_itself read ∙ sym same),
        why.torn,
      );
      heeded = heard_heeded x made aim (Read bytes) h;
      reads = op ∙ again_op x.setting read;
    }

read_is : (x : Moment) (aim : Aim) (bytes : List ℕ) (made : LeaseStep) → (h : IsHeard x made aim (Read bytes)) → (n m : ℕ) → NextIs x (lease_next (place_at x) (known_at x) aim n m made (Read bytes))
unfolding lease_next
read_is x aim bytes made h n m =
    bytes_are (NextIs x) (place_at x) (known_at x) aim bytes made (λ read asked. again_is x aim bytes made h read asked)
    (λ asked. after_is x aim bytes made h asked (heard x.setting.layout (known_at x) bytes made) refl)

written_is : (x : Moment) (aim : Aim) (step : LeaseStep) → (h : IsHeard x step aim Written) → (n : ℕ) → NextIs x (lease_next (place_at x) (known_at x) aim n (lver_written h.call) step Written)
unfolding lease_next
written_is x aim (ReadArea name) h n = tt
written_is x aim ReadBeforeBlock h n = tt
written_is x aim (ReadAgain read) h n = tt
written_is x aim ReadBeforeFree h n = tt
written_is x aim Phase1Write h n = λ c op. record { after = heard_comes x Phase1Write aim Written h; done = heard_done x Phase1Write aim h; reads = op }
written_is x aim Phase1Read h n = tt
written_is x aim Phase2Write h n = λ c op. record { after = heard_comes x Phase2Write aim Written h; done = heard_done x Phase2Write aim h; reads = op }
written_is x aim Phase2Read h n = tt
written_is x aim TakeLeader h n = take_is x aim h (lver_written h.call)
written_is x aim SetMode h n = moding_is x aim h
written_is x aim FreeLeader h n = freeing_is x aim h (lver_written h.call)
written_is x aim ClearMode h n = clearing_is x aim h

pub answers_fit : AnswersFit
unfolding lease_next
answers_fit x step aim (Read bytes) h = read_is x aim bytes step h h.call.call.number (lver_written h.call)
answers_fit x step aim Written h = written_is x aim step h h.call.call.number
answers_fit x step aim Failed h = refusal_is x aim (IoFault h.call.call.number) refl

pub settlings_fit : SettlingsFit
settlings_fit x ways aimed = settling_is x ways aimed

-- ---- releases and conversions

cleared : (x : Moment) (o : Option Block) → block_submitted (calls_at x) ≡ o → NextIs x (option_map_or (λ own. WriteBlock ClearMode (moded_block own false 0)) o Nothing)
cleared x None is = tt
cleared x (Some own) is = ((λ c op. record { own = own; known = is; wrote = op }), (refl, refl))

pub releases_fit : ReleasesFit
unfolding known
releases_fit x Shared lver aimed won closed = cleared x (block_submitted (calls_at x)) refl
releases_fit x Exclusive lver aimed won closed = (
  (λ c op. record { leader = _; wrote = op; free = refl; won = won refl; concluded = closed refl; why = In_release aimed }),
  refl,
)

moded : (x : Moment) → (context_at x).aims x.work ≡ Some (Converts Shared) → (o : Option Block) → block_submitted (calls_at x) ≡ o
    → NextIs x (option_map_or (λ own. WriteBlock SetMode (moded_block own true (context_at x).self.generation)) o Nothing)
moded x aimed None is = tt
moded x aimed (Some own) is = ((λ c op. record { own = own; known = is; wrote = op; why = In_conversion aimed }), (refl, refl))

pub conversions_fit : ConversionsFit
unfolding known
conversions_fit x Shared name aimed = moded x aimed (block_submitted (calls_at x)) refl
conversions_fit x Exclusive name aimed = λ c op. op
