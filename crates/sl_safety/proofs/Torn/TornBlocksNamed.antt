-- Whoever is refused for a torn block with pairs is told of a host both of whose sectors were torn when the second read sampled them.
use Rattle.sl_area.specs.AreaSizes.{Layout}
use Rattle.sl_run.specs.Caused.{Answering, AnswersWell, BeforeCall, CausedBy, GivesBlocks, IsTornBlockRead, after_entry, the_session}
use Rattle.sl_run.specs.TornPairBlocks.{NamesTorn, TornBlocksAreNamed}
use Rattle.sl_run.specs.LawForms.{IsAnsweredAt}
use Rattle.sl_safety.proofs.Torn.TornPairs.{TornIn, first_none, stopped_at, torn_in}
use Rattle.sl_safety.proofs.Value.ReplyEntries.{replied_by}
use Rattle.std.proofs.Common.{ap, arith, inl, inr, refl, subst, sym, tests, ◌∙◌}
use Rattle.std.specs.Prelude.{Contains, IsSomeAnd, List, None, Option, Some, false, is_none, length, option_map, position, slice_get, true, ℕ, ◌++◌, ◌+◌, ◌-◌, ◌==◌, ◌∷◌, ◌≡◌}
use Rattle.sl_words.proofs.CaseLaws.{none_some, some_value}
use Rattle.sl_words.proofs.Options.{else_some}
use Rattle.sl_trace.proofs.TraceFacts.{each_entry-front}
use Rattle.sl_run_law.proofs.Front.JoinedLists.{contains_flat, placed_at}
use Rattle.sl_trace.specs.Leases.{blocks_given}
use Rattle.sl_area.specs.AreaLayout.{area_blocks}
use Rattle.sl_run_law.proofs.Sessions.CallsAreMade.{answers_stay}
use Rattle.sl_trace.specs.declared.reply.Reply.TheVariants.{TornBlock}
use Rattle.sl_trace.specs.declared.input.Answer.TheVariants.{Read}
use Rattle.sl_run.specs.Safety.{LawfulRun, world_at}
use Rattle.sl_run.specs.declared.header.Header.{Header}
use Rattle.sl_run.specs.Runs.{Happening, daemons_of}
use Rattle.sl_trace.specs.declared.effects.Entry.{Entry}
use Rattle.sl_run.specs.Worlds.{Daemon, Program, World, daemons_on, machine_at}
use Rattle.sl_sector.specs.declared.sector.Block.{Block}
use Rattle.sl_trace.specs.Traces.{Answered, EachEntry, Job, Setting, Submitted, Trace, submitted}
use Rattle.sl_run_law.proofs.Place.PlaceLaws.{promised}

-- ---- the daemons of a world

not_zero : (k : ℕ) → (k + 1 == 0) ≡ false
not_zero k = grind (arith, tests)

one_less : (k : ℕ) → k + 1 - 1 ≡ k
one_less k = omega arith

paired_there : (p : Program) (h : Header) (xs : List Happening) → LawfulRun p h xs → (d : Daemon) → Contains (daemons_of (world_at p h xs)) d
    → d.setting.layout ≡ (world_at p h xs).layout
paired_there p h xs run d has =
    let w : World = world_at p h xs in
    let f = contains_flat daemons_on w.machines d has in
    let k = placed_at w.machines f.0 f.1 in
    let at : machine_at w (k.0 + 1) ≡ Some f.0 = else_some (k.0 + 1 == 0) (slice_get w.machines (k.0 + 1 - 1)) f.0 (not_zero k.0) (ap (λ n. slice_get w.machines n) (one_less k.0) ∙ k.1) in
    (promised.of_world p h xs run (k.0 + 1) f.0 d at f.2).layout

-- ---- the read that is named

record TornRead (x : Answering) (host : ℕ) : Type 0 where
  read : Submitted
  bytes : List ℕ
  inside : Contains (submitted (after_entry x)) read
  answered : IsAnsweredAt (length x.past) read (Read bytes)
  torn : TornIn x.setting.layout read host

some_and : {A : Type 0} (o : Option A) (P : A → Type 0) → IsSomeAnd o P → (a : A) × (o ≡ Some a) × P a
some_and None P h = absurd h
some_and (Some a) P h = (a, refl, h)

next_is : (o : Option ℕ) (host : ℕ) → option_map (λ k. k + 1) o ≡ Some host → (i : ℕ) × (o ≡ Some i) × (i + 1 ≡ host)
next_is None host h = absurd (none_some host h)
next_is (Some i) host h = (i, refl, some_value (i + 1) host h)

given_with : (x : Answering) → x.setting.layout.paired ≡ true → (c : Submitted) (bytes : List ℕ) (P : List (Option Block) → Type 0) → GivesBlocks x c bytes P
    → BeforeCall x c (λ s before. IsSomeAnd (blocks_given x.setting.layout c before) P)
given_with x paired c bytes P h =
    subst (λ b. elim b as (λ z. Type 0) [
      | false ↦ P (area_blocks x.setting.layout bytes)
      | true ↦ BeforeCall x c (λ s before. IsSomeAnd (blocks_given x.setting.layout c before) P)
    ]) paired h

torn_read : (x : Answering) (host : ℕ) → x.setting.layout.paired ≡ true → IsTornBlockRead x host → TornRead x host
torn_read x host paired (inl area) =
    let g : Layout = x.setting.layout in
    let c : Submitted = area.0 in
    let b = some_and (the_session x) _ (given_with x paired c area.1 (λ blocks. option_map (λ k. k + 1) (position is_none blocks) ≡ Some host) area.3.1) in
    let before : List Submitted = b.2.1 in
    let bs = some_and (blocks_given g c before) (λ blocks. option_map (λ k. k + 1) (position is_none blocks) ≡ Some host) b.2.3 in
    let i = next_is (position is_none bs.0) host bs.2 in
    record {
      read = c;
      bytes = area.1;
      inside = area.2.submitted_before;
      answered = area.2.answered;
      torn = subst (λ n. TornIn g c n) i.2 (torn_in g paired c before bs.0 bs.1 i.0 (first_none bs.0 i.0 i.1));
    }
torn_read x host paired (inr stopped) =
    let g : Layout = x.setting.layout in
    let s = some_and (the_session x) _ stopped in
    let c : Submitted = s.2.0 in
    let blocks : List (Option Block) = s.2.3.0 in
    let at = stopped_at s.2.3.1 blocks host s.2.3.7.1 in
    record {
      read = c;
      bytes = s.2.1;
      inside = s.2.2.submitted_before;
      answered = s.2.2.answered;
      torn = subst (λ n. TornIn g c n) (sym at.1) (torn_in g paired c s.2.3.3 blocks s.2.3.4 at.0 at.2);
    }

-- ---- in the whole trace

named : (d : Daemon) (later past : Trace) (entry : Entry) → d.trace ≡ later ++ entry ∷ past → (j : Job) (at host : ℕ) → at ≡ length past
    → TornRead (record { setting = d.setting; past = past; entry = entry; job = j }) host → NamesTorn d at host
named d later past entry whole j at host place t =
    let a = t.answered in
    record {
      read = t.read;
      bytes = t.torn.bytes;
      second = (
        subst (λ es. Contains (submitted es) t.read) (sym whole) (answers_stay later (entry ∷ past) t.read a.0 t.inside a.1),
        t.torn.again,
        subst (λ o. IsSomeAnd o (λ (b : Answered). b.at ≡ at)) (sym a.1) (a.2 ∙ sym place),
      );
      gives = t.torn.gives;
      torn = t.torn.torn;
    }

pub torn_blocks_are_named : TornBlocksAreNamed
torn_blocks_are_named p h xs run caused paired d job at host has told =
    let w : World = world_at p h xs in
    let st : Setting = d.setting in
    let b = replied_by d.trace job (record { at = at; reply = TornBlock host }) told in
    let own = each_entry-front (AnswersWell st) b.later (b.entry ∷ b.past) (subst (λ es. EachEntry (AnswersWell st) es) b.whole (caused d has)) in
    let k = own.0.running b.reply b.given in
    let x : Answering = record { setting = st; past = b.past; entry = b.entry; job = k.0 } in
    let cause : CausedBy x (TornBlock host) = subst (λ r. CausedBy x r) b.says k.3 in
    let pairs : st.layout.paired ≡ true = ap (λ (g : Layout). g.paired) (paired_there p h xs run d has) ∙ paired in
    named d b.later b.past b.entry b.whole k.0 at host b.place (torn_read x host pairs cause)
