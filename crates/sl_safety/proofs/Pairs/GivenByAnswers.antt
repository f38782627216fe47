-- What a trace was given of all blocks is what a read of the world gives: by its own answer, or by that of the call before it too.
use Rattle.sl_area.specs.AreaSizes.{Layout}
use Rattle.sl_area.specs.Pairs.{BlocksRead, needs_again, pairs_kept, read_once}
use Rattle.sl_safety.proofs.Resources.Calls.{IsWork}
use Rattle.sl_safety.proofs.Resources.OwnBlocks.{layout_at}
use Rattle.sl_safety.proofs.Resources.CallParts.{Standing}
use Rattle.sl_safety.specs.Resources.HistoryLaws.{spot_of_line}
use Rattle.sl_safety.specs.Resources.SentCalls.{Sent, all_sent, begun_by}
use Rattle.sl_safety.specs.Pairs.Reads.{GivesBlocks, IsReadOf, Once, Twice}
use Rattle.sl_safety.specs.Resources.SampledReads.{blocks_sampled}
use Rattle.sl_run.specs.Runs.{Happening}
use Rattle.sl_run.specs.Safety.{LawfulRun, world_at}
use Rattle.sl_run.specs.Worlds.{Program, Stamp, World}
use Rattle.sl_run.specs.declared.header.Header.{Header}
use Rattle.sl_run.specs.declared.header.ResourceLine.{ResourceLine}
use Rattle.sl_run_law.proofs.Place.MadeLeaders.{KeptOf, kept_of}
use Rattle.sl_sector.specs.declared.sector.PairBlock.{PairBlock}
use Rattle.sl_trace.specs.Leases.{blocks_bytes, is_again, read_given}
use Rattle.sl_trace.specs.Traces.{Setting, new_call}
use Rattle.sl_trace.specs.declared.effects.Call.{Call}
use Rattle.sl_run_law.specs.Leases.Ways.{lease_among}
use Rattle.std.proofs.Common.{ap, refl, sym, ◌∙◌}
use Rattle.std.specs.Prelude.{Contains, List, Option, Some, false, true, ℕ, ◌≡◌}
use Rattle.sl_safety.proofs.Resources.GivenBlocks.{GaveRead, GivenWays, Second, gave_read, given_ways, Alone}
use Rattle.sl_words.proofs.CaseLaws.{some_value}
use Rattle.sl_words.specs.Words.{first_of_list}
use Rattle.sl_safety.proofs.Resources.Looks.{begun_once, begun_twice}
use Rattle.sl_safety.proofs.Resources.ReadBeginnings.{SecondOf, second_of}

pub record GivenThere (w : World) (r : ResourceLine) (x : Sent) (g : BlocksRead) : Type 0 where
  pub first : Sent
  pub gives : GivesBlocks w r first x g
  pub begun : begun_by w (spot_of_line r) x ≡ Some first
  pub stamp : Stamp
  pub answered : x.course.answered ≡ Some stamp

alone_there : (w : World) (r : ResourceLine) (x : Sent) (g : BlocksRead) → is_again (new_call 0 0 x.course.call) ≡ false → (layout : Layout) → layout ≡ w.layout → (bs : List ℕ) → needs_again layout bs ≡ false → g ≡ read_once bs
    → (b : GaveRead w x.course bs) → IsReadOf w r x → GivenThere w r x g
alone_there w r x g again layout same bs once is b i =
    record {
      first = x;
      gives = Once i refl again (ap (needs_again w.layout) (sym b.bytes) ∙ ap (λ (y : Layout). needs_again y bs) (sym same) ∙ once) (is ∙ ap read_once b.bytes);
      begun = begun_once w (spot_of_line r) x again;
      stamp = b.stamp;
      answered = b.answered;
    }

both_kept : (ps qs : List (Option PairBlock)) (bs cs : List ℕ) → ps ≡ qs → bs ≡ cs → (let x : BlocksRead = record { kept = ps; last = bs } in x) ≡ record { kept = qs; last = cs }
both_kept ps qs bs cs one two =
    ap (λ z. let x : BlocksRead = record { kept = z; last = bs } in x) one ∙ ap (λ z. let x : BlocksRead = record { kept = qs; last = z } in x) two

pub given_there : (p : Program) (h : Header) (xs : List Happening) → LawfulRun p h xs → (r : ResourceLine) → Contains h.resources r → (x : Sent) → Contains (all_sent (world_at p h xs)) x
    → IsWork (world_at p h xs) r x → (s : Standing (world_at p h xs) x) → (g : BlocksRead)
    → read_given s.daemon.setting.layout s.told.one (lease_among s.daemon.setting s.session (spot_of_line r) s.told.older) ≡ Some g → GivenThere (world_at p h xs) r x g
given_there p h xs run r there x has work s g given =
    by (given_ways s.daemon.setting.layout s.told.one (lease_among s.daemon.setting s.session (spot_of_line r) s.told.older) g given)
  where
    w : World
    w = world_at p h xs

    st : Setting
    st = s.daemon.setting

    read_is : (bs : List ℕ) → GaveRead (world_at p h xs) x.course bs → IsReadOf (world_at p h xs) r x
    read_is bs b = record { has = has; reads = b.reads; done = b.done; on = work.on }

    by : GivenWays s.daemon.setting.layout s.told.one (lease_among s.daemon.setting s.session (spot_of_line r) s.told.older) g → GivenThere (world_at p h xs) r x g
    by (Alone again bs told once is) =
        let layout : st.layout ≡ w.layout = layout_at p h xs run x s in
        let b : GaveRead w x.course bs = gave_read w s.daemon x.course s.told.one s.told.pair layout bs told in
        alone_there w r x g (ap (λ (v : Call). is_again (new_call 0 0 v)) (sym s.told.pair.call) ∙ again) st.layout layout bs once is b (read_is bs b)
    by (Second again bs told pairs before is) =
        let layout : st.layout ≡ w.layout = layout_at p h xs run x s in
        let b : GaveRead w x.course bs = gave_read w s.daemon x.course s.told.one s.told.pair layout bs told in
        let k : KeptOf st.layout (lease_among st s.session (spot_of_line r) s.told.older) pairs =
        kept_of st.layout (lease_among st s.session (spot_of_line r) s.told.older) pairs before in
        let too : is_again (new_call 0 0 x.course.call) ≡ true = ap (λ (v : Call). is_again (new_call 0 0 v)) (sym s.told.pair.call) ∙ again in
        let f : SecondOf p h xs r x s = second_of p h xs run r there x work s too in
        let same : k.first ≡ f.told = some_value k.first f.told (ap first_of_list (sym k.is ∙ f.newest)) in
        let e : GaveRead w f.first.course k.bytes =
        gave_read w s.daemon f.first.course f.told f.pair layout k.bytes (ap (blocks_bytes st.layout) (sym same) ∙ k.told) in
        record {
          first = f.first;
          gives = Twice (record { has = f.has; reads = f.look.reads; done = f.look.done; on = f.look.on }) (read_is bs b) too f.look.stamp f.look.closed f.look.early
              (is
              ∙ both_kept pairs (pairs_kept w.layout (blocks_sampled w.layout f.first.course)) bs (blocks_sampled w.layout x.course)
              (k.same ∙ ap (λ (z : Layout). pairs_kept z k.bytes) layout ∙ ap (pairs_kept w.layout) e.bytes) b.bytes);
          begun = begun_twice w (spot_of_line r) x f.first too f.last;
          stamp = b.stamp;
          answered = b.answered;
        }
