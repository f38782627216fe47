-- What is known of the lease with one more call.
use Rattle.sl_area.specs.AreaSizes.{Layout}
use Rattle.sl_due_facts.proofs.Acts.Pairs.GivenByReads.{again_at}
use Rattle.sl_due_facts.proofs.Acts.Pairs.Records.{read_no_block, written_block, written_no_block}
use Rattle.sl_area.specs.Pairs.{blocks_of, needs_again, read_once}
use Rattle.sl_area.specs.AreaLayout.{blocks_part}
use Rattle.sl_trace.specs.Leases.{block_submitted, first_kept, freed, is_second, last_blocks, leader_of_record, own_or_read}
use Rattle.sl_headline.proofs.Quiet.Course.QuietDecisions.{first_of, quiet_decisions}
use Rattle.sl_headline.specs.Quiet.Course.CourseOfCalls.{Begins, BlockCall, CourseDecisions, LeaderCall, ReadCall, Same, ShowsOwn, known_with, second_block}
use Rattle.sl_headline.specs.Quiet.Course.QuietDecisions.{FindsFree, FindsOwn, all_whole}
use Rattle.sl_sector.specs.declared.sector.Block.{Block}
use Rattle.sl_sector.specs.declared.sector.Leader.{Leader}
use Rattle.sl_trace.specs.Traces.{Submitted, record_of}
use Rattle.sl_trace.specs.declared.effects.LeaseStep.TheVariants.{Phase1Read, Phase2Read, ReadArea}
use Rattle.sl_trace.specs.declared.effects.LeaseStep.{LeaseStep}
use Rattle.sl_due_leases.proofs.Ways.GivenReads.{kept_once}
use Rattle.sl_headline.proofs.Quiet.Course.GivenArea.{blocks_are_given}
use Rattle.std.proofs.Common.{ap, arith, refl, subst, sym, ◌∙◌}
use Rattle.std.specs.Option.{option_map_or}
use Rattle.std.specs.Prelude.{List, None, Option, Some, [], false, if◌then◌else◌, max, option_and_then, ℕ, ◌+◌, ◌∷◌, ◌≡◌, ◌≤◌}

-- ---- own block and frees

own_still : (m : Submitted) (ms : List Submitted) (step : LeaseStep) (bytes : List ℕ) → ReadCall m step bytes → block_submitted (m ∷ ms) ≡ block_submitted ms
own_still m ms step bytes r = ap (λ o. elim o as (λ x. Option Block) [ Some b ↦ Some b | None ↦ block_submitted ms ]) (read_no_block m r.sectors r.op)

own_new : (g : Layout) (m : Submitted) (ms : List Submitted) (b : Block) → BlockCall g m b → block_submitted (m ∷ ms) ≡ Some b
own_new g m ms b r = ap (λ o. elim o as (λ x. Option Block) [ Some b ↦ Some b | None ↦ block_submitted ms ]) (written_block g r.turn r.lockspace r.name m b r.op)

own_over_leader : (g : Layout) (m : Submitted) (ms : List Submitted) (l : Leader) → LeaderCall g m l → block_submitted (m ∷ ms) ≡ block_submitted ms
own_over_leader g m ms l r = ap (λ o. elim o as (λ x. Option Block) [ Some b ↦ Some b | None ↦ block_submitted ms ]) (written_no_block g m l r.op)

no_more : (n : ℕ) → max 0 n ≡ n
no_more n = omega arith

freed_still : (m : Submitted) (ms : List Submitted) (step : LeaseStep) (bytes : List ℕ) → ReadCall m step bytes → freed (m ∷ ms) ≡ freed ms
freed_still m ms step bytes r =
    ap (λ o. max (option_map_or (λ (l : Leader). if l.held then 0 else l.lver) (option_and_then leader_of_record (record_of o)) 0) (freed ms)) r.op ∙ no_more (freed ms)

-- ---- what was read

read_area_now : (g : Layout) (m : Submitted) (ms : List Submitted) (name bytes : List ℕ) → ReadCall m (ReadArea name) bytes → needs_again g (blocks_part g bytes) ≡ false
    → last_blocks g (m ∷ ms) ≡ blocks_of g (read_once (blocks_part g bytes))
read_area_now g m ms name bytes r enough =
    ap (λ o. elim o as (λ x. List (Option Block)) [ Some bs ↦ bs | None ↦ last_blocks g ms ]) (blocks_are_given g m ms r.work (ReadArea name) bytes r.purpose refl refl r.gives enough)

-- Nothing is kept of a first read.
none_kept : (g : Layout) (m : Submitted) (ms : List Submitted) (step : LeaseStep) (bytes : List ℕ) → ReadCall m step bytes → is_second step ≡ false → first_kept g (m ∷ ms) ≡ []
none_kept g m ms step bytes r first = kept_once g m ms (again_at m r.work step r.purpose ∙ first)

-- ---- the decisions

finds_free : (x : Same) (ms : List Submitted) (name bytes : List ℕ) (l : Leader) (blocks : List Block) (own : Block) → Begins x ms name bytes l blocks own → (m : Submitted)
    → ReadCall m (ReadArea name) bytes → FindsFree x.place (known_with x (m ∷ ms)) name bytes l blocks own
finds_free x ms name bytes l blocks own b m r =
    let read : last_blocks x.place.layout (m ∷ ms) ≡ all_whole blocks = read_area_now x.place.layout m ms name bytes r b.shows.once ∙ b.shows.whole in
    record {
      leader = b.leader;
      names = b.names;
      free = b.free;
      shows = b.shows;
      below = b.below;
      read = read;
      kept = none_kept x.place.layout m ms (ReadArea name) bytes r refl;
      own_is = ap (λ o. own_or_read x.self.id o (last_blocks x.place.layout (m ∷ ms))) (own_still m ms (ReadArea name) bytes r) ∙ ap (λ bs. own_or_read x.self.id (block_submitted ms) bs) read ∙ b.own_is;
      own_low = b.own_low;
      freed = subst (λ n. n ≤ l.lver) (sym (freed_still m ms (ReadArea name) bytes r)) b.freed_low;
      not_shared = refl;
      lver = b.lver;
      mbal = b.mbal;
    }

finds_own : (x : Same) (ms : List Submitted) (own : Block) (blocks : List Block) (bytes : List ℕ) (step : LeaseStep) → is_second step ≡ false → (w m : Submitted) → BlockCall x.place.layout w own → ReadCall m step bytes
    → ShowsOwn x bytes blocks own
    → FindsOwn x.place (known_with x (m ∷ w ∷ ms)) bytes blocks own
finds_own x ms own blocks bytes step first w m writes reads s =
    record {
      shows = s.shows;
      kept = none_kept x.place.layout m (w ∷ ms) step bytes reads first;
      own_is = own_still m (w ∷ ms) step bytes reads ∙ own_new x.place.layout w ms own writes;
      alone = s.alone;
    }

pub course_decisions : CourseDecisions
course_decisions = record {
  begins = λ x ms mode name bytes l blocks own b m r call n.
      quiet_decisions.area_read x.place (known_with x (m ∷ ms)) mode call n name bytes l blocks own (finds_free x ms name bytes l blocks own b m r);
  accepts = λ x ms mode own blocks bytes w m writes reads zero_bal s none call n.
      quiet_decisions.phase1_read x.place (known_with x (m ∷ w ∷ ms)) mode call n bytes blocks own (finds_own x ms own blocks bytes Phase1Read refl w m writes reads s) zero_bal refl none;
  takes = λ x ms mode own blocks bytes w m writes reads s call n.
      quiet_decisions.phase2_read x.place (known_with x (m ∷ w ∷ ms)) mode call n bytes blocks (second_block x own) own
      (finds_own x ms (second_block x own) blocks bytes Phase2Read refl w m writes reads s) refl;
  shares = λ x ms own l w r m bytes writes reads leads call n.
      quiet_decisions.taken_shared x.place (known_with x (m ∷ r ∷ w ∷ ms)) call n own
      (own_over_leader x.place.layout m (r ∷ w ∷ ms) l leads ∙ own_still r (w ∷ ms) Phase2Read bytes reads ∙ own_new x.place.layout w ms own writes);
  first = λ x ms name bytes l blocks own b. let f = first_of x.place (known_with x ms) (l.lver + 1) own blocks b.unaccepted in (f.lver, f.bal, f.host);
}
