-- A play that draws: each event that is drawn may happen, and the run that is made is the one of the seed.
use Rattle.sl_world_state.specs.Daemons.{program_of}
use Rattle.sl_generate.specs.Candidates.{first_allowed}
use Rattle.sl_generate.specs.DrawnRuns.{IsDrawn, state_behind}
use Rattle.sl_generate.specs.GeneratorPlay.{DrawsAll, DrawsIn, HasTaken, HaveDrawn, IsDrawing, MadeOf, TakesDrawn, TakesFirst}
use Rattle.sl_world_state.specs.KeptWorld.{KeptState}
use Rattle.sl_world_state.specs.Refusals.{refusal_in}
use Rattle.sl_world_state.specs.SaneWorlds.{WorldStands}
use Rattle.sl_play.specs.PlayIsOwed.{EachStood}
use Rattle.sl_play.specs.Plays.{Begins, HasHappened, IsBarred, PlayState, StaysAs}
use Rattle.sl_report.specs.GeneratedSchedules.{IsGenerated, draw_of, gen_event, gen_header, gen_line, next_state}
use Rattle.sl_report.specs.Reports.{Counts, count_event, end_line, no_counts, run_counts}
use Rattle.sl_run.specs.EventChanges.{happens}
use Rattle.sl_run.specs.Runs.{AfterEachFront, Happening, world_after}
use Rattle.sl_run.specs.Worlds.{World, world_with}
use Rattle.sl_run.specs.declared.event.Event.TheVariants.{Pass}
use Rattle.sl_run.specs.declared.event.Event.{Event}
use Rattle.sl_run.specs.declared.event.Refusal.{Refusal}
use Rattle.sl_run.specs.declared.header.Header.{Header}
use Rattle.sl_run_law.proofs.WorldsGoOn.{event_goes}
use Rattle.sl_text.specs.Forms.{Form, as_bytes}
use Rattle.sl_generate.proofs.StillTime.{time_may_stand_still}
use Rattle.sl_generate.proofs.TimelyWorlds.{events_stay_timely, first_worlds_are_timely}
use Rattle.sl_trace.specs.Traces.{Setting, Trace}
use Rattle.sl_trace.specs.declared.command.Command.{Command}
use Rattle.sl_trace.specs.declared.effects.Effects.{Effects}
use Rattle.sl_words.proofs.Lists.{head_is, tail_is}
use Rattle.sl_words.proofs.CaseLaws.{false_is_true}
use Rattle.sl_world_law.proofs.DrawsAreKept.{draws_are_kept}
use Rattle.sl_world_law.proofs.EventsStand.{refusals_stand}
use Rattle.sl_world_law.proofs.FirstStanding.{each_stood}
use Rattle.sl_world_law.specs.DrawnCandidates.{candidates_in}
use Rattle.std.proofs.Common.{Bool, List, None, Some, [], ap, arith, cond, length, refl, subst, suc, sym, true, ℕ, ◌++◌, ◌+◌, ◌-◌, ◌<◌, ◌≤◌, ◌∙◌, ◌∷◌, ◌≡◌}
use Rattle.std.specs.Prelude.{false, find, is_none, unwrap_or}

-- ---- the event that is drawn

module _ {D : Type 0} (commands : Header → List (Form Command)) (stands : D → Setting → Trace → Type 0) where
  -- It is the first that what is kept allows.
  is_drawn : (p : PlayState D) (w : World) → DrawsIn commands stands p w → (a b c number : ℕ)
      → first_allowed commands p.kept (candidates_in p.kept p.kept.header.machines a b c number) ≡ gen_event w w.header.machines a b c number
  is_drawn p w d a b c number =
      sym (draws_are_kept commands p.kept w d.stands_for.tells d.stands_for.sane p.kept.header.machines a b c number)
      ∙ ap (λ (h : Header). gen_event w h.machines a b c number) (sym d.stands_for.tells.header)

  stands_still : (p q : PlayState D) (w : World) → StaysAs p q → WorldStands commands stands p.kept p.hosts w → WorldStands commands stands q.kept q.hosts w
  stands_still p q w same s =
      subst (λ hs. WorldStands commands stands q.kept hs w) (sym same.hosts) (subst (λ k. WorldStands commands stands k p.hosts w) (sym same.kept) s)

  -- It has come to pass.
  pub takes_drawn : (p n : PlayState D) (a b c number : ℕ) (events : List Event) → events ≡ candidates_in p.kept p.kept.header.machines a b c number → TakesFirst commands stands p events n
      → TakesDrawn commands stands p a b c number n
  takes_drawn p n a b c number events drawn first w d =
      let x = first.happened.in_each w (stands_still p first.still w first.same d.stands_for) in
      let taken : HasTaken commands stands w p (first_allowed commands p.kept events) n = record {
        effects = first.happened.effects;
        may = x.comes.may;
        steps = x.comes.steps;
        draws = record { stands_for = x.comes.stays; timely = events_stay_timely w (first_allowed commands p.kept events) first.happened.effects x.comes.may d.timely };
        counts = x.counts ∙ ap (count_event w (first_allowed commands p.kept events) (first.happened.effects ∷ [])) first.same.counts;
      } in
      subst (λ e. HasTaken commands stands w p e n) (ap (first_allowed commands p.kept) drawn ∙ is_drawn p w d a b c number) taken

  -- ---- candidates, one after another

  pub same_still : (p q n : PlayState D) → StaysAs p q → StaysAs q n → StaysAs p n
  same_still p q n first then = record { kept = then.kept ∙ first.kept; hosts = then.hosts ∙ first.hosts; counts = then.counts ∙ first.counts }

  -- Whether the first of these is allowed says which is the first that is.
  found_by : (k : KeptState) (event : Event) (rest : List Event) (b : Bool) → is_none (refusal_in commands k event) ≡ b
      → first_allowed commands k (event ∷ rest) ≡ unwrap_or (cond b (Some event) (find (λ e. is_none (refusal_in commands k e)) rest)) (Pass 0 None)
  found_by k event rest b is = ap (λ t. unwrap_or (cond t (Some event) (find (λ e. is_none (refusal_in commands k e)) rest)) (Pass 0 None)) is

  module _ (p q n : PlayState D) (event : Event) (out now : List ℕ) (same : StaysAs p q) (drawing : IsDrawing commands stands p) where
    -- One that is refused is passed over.
    pub passed_over : (why : Refusal) (rest : List Event) → IsBarred commands stands q event out n now why
        → first_allowed commands p.kept (event ∷ rest) ≡ first_allowed commands p.kept rest
    passed_over why rest barred =
        let w : World = drawing.world in
        let s = drawing.draws.stands_for in
        found_by p.kept event rest false
        (ap is_none (sym (refusals_stand commands stands p.kept p.hosts w s event) ∙ barred.barred w (stands_still p q w same s)))

    -- One that comes to pass is the first that is allowed.
    pub first_taken : (events rest : List Event) → first_allowed commands p.kept events ≡ first_allowed commands p.kept (event ∷ rest) → HasHappened commands stands q event out n now
        → TakesFirst commands stands p events n
    first_taken events rest found happened =
        let w : World = drawing.world in
        let s = drawing.draws.stands_for in
        let may : is_none (refusal_in commands p.kept event) ≡ true =
        ap is_none (sym (refusals_stand commands stands p.kept p.hosts w s event)) ∙ (happened.in_each w (stands_still p q w same s)).comes.may in
        record {
          still = q;
          same = same;
          before = out;
          after = now;
          happened = subst (λ e. HasHappened commands stands q e out n now) (sym (found ∙ found_by p.kept event rest true may)) happened;
        }

  -- Where each is refused, time may stand still.
  pub never_barred : (p q n : PlayState D) (out now : List ℕ) (why : Refusal) → StaysAs p q → IsDrawing commands stands p → IsBarred commands stands q (Pass 0 None) out n now why → ⊥
  never_barred p q n out now why same drawing barred =
      let w : World = drawing.world in
      let d = drawing.draws in
      let some = barred.barred w (stands_still p q w same d.stands_for) in
      absurd (false_is_true (sym (ap is_none some) ∙ time_may_stand_still commands w d.stands_for.sane d.timely))

  pub drawing_then : (p n : PlayState D) (a b c number : ℕ) → IsDrawing commands stands p → TakesDrawn commands stands p a b c number n → IsDrawing commands stands n
  drawing_then p n a b c number drawing takes =
      let t = takes drawing.world drawing.draws in
      record {
        world = happens drawing.world (gen_event drawing.world drawing.world.header.machines a b c number) (t.effects ∷ []);
        draws = t.draws;
      }

-- ---- one event in front

front_cases : (P : World → Type 0) (w : World) (x : Happening) (xs : List Happening) → P w → AfterEachFront xs (λ now. P (world_after (happens w x.0 x.1) now))
    → (now rest : List Happening) → x ∷ xs ≡ now ++ rest → P (world_after w now)
front_cases P w x xs first after [] rest is = first
front_cases P w x xs first after (y ∷ now) rest is =
    subst (λ (z : Happening). P (world_after (happens w z.0 z.1) now)) (head_is x y xs (now ++ rest) is) (after now rest (tail_is x y xs (now ++ rest) is))

alone : (P : World → Type 0) (w : World) → P w → (now rest : List Happening) → [] ≡ now ++ rest → P (world_after w now)
alone P w first [] rest is = first
alone P w first (y ∷ now) rest is = absurd cc

-- What is drawn of the state is what was drawn.
same_draws : (w : World) (hosts others a b c d e f number : ℕ) → hosts ≡ others → a ≡ d → b ≡ e → c ≡ f → gen_event w hosts a b c number ≡ gen_event w others d e f number
same_draws w hosts others a b c d e f number h i j k =
    ap (λ n. gen_event w n a b c number) h ∙ ap (λ n. gen_event w others n b c number) i ∙ ap (λ n. gen_event w others d n c number) j
    ∙ ap (λ n. gen_event w others d e n number) k

module _ {D : Type 0} (commands : Header → List (Form Command)) (stands : D → Setting → Trace → Type 0) where
  -- At first nothing is drawn.
  pub none_drawn : (p : PlayState D) (seed events : ℕ) → HaveDrawn commands stands p seed events 0 seed p
  none_drawn p seed events w d =
      record {
        world = w;
        draws = d;
        header = refl;
        leads = λ last g. subst (λ n. IsDrawn (EachStood stands) w.header.machines n 1 w seed p.counts last) all g;
      }
    where
      all : events - 0 ≡ events
      all = omega arith

  -- One more event is drawn.
  pub more_drawn : (p q n : PlayState D) (seed events number x y a b c : ℕ) → number < events → y ≡ state_behind x → a ≡ draw_of (next_state x) → b ≡ draw_of (next_state (next_state x))
      → c ≡ draw_of (state_behind x) → HaveDrawn commands stands p seed events number x q → TakesDrawn commands stands q a b c (number + 1) n
      → HaveDrawn commands stands p seed events (number + 1) y n
  more_drawn p q n seed events number x y a b c within behind is_a is_b is_c have takes w d =
      let h = have w d in
      let v : World = h.world in
      let t = takes v h.draws in
      let e : Event = gen_event v v.header.machines a b c (number + 1) in
      let fxs : List Effects = t.effects ∷ [] in
      let u : World = happens v e fxs in
      let same : e ≡ gen_event v w.header.machines (draw_of (next_state x)) (draw_of (next_state (next_state x))) (draw_of (state_behind x)) (number + 1) =
      same_draws v v.header.machines w.header.machines a b c _ _ _ (number + 1) (ap (λ (g : Header). g.machines) h.header) is_a is_b is_c in
      record {
        world = u;
        draws = t.draws;
        header = (event_goes v e fxs).header ∙ h.header;
        leads = λ last g.
            let there : IsGenerated ((number + 1) + 1) w.header.machines u (state_behind x) g.run = subst (λ s. IsGenerated ((number + 1) + 1) w.header.machines u s g.run) behind g.generated in
            h.leads last (record {
              run = (e, fxs) ∷ g.run;
              counted = one_more (length g.run) g.counted;
              generated = (same, there);
              is_run = (t.may, t.steps, g.is_run);
              fronts = front_cases (EachStood stands) v (e, fxs) g.run (each_stood commands stands q.kept q.hosts v h.draws.stands_for) g.fronts;
              counts = ap (λ k. run_counts u k g.run) (sym t.counts) ∙ g.counts;
            });
      }
    where
      one_more : (k : ℕ) → k ≡ events - (number + 1) → suc k ≡ events - number
      one_more k h = omega (arith, h, within)

  -- All are.
  pub all_drawn : (p q : PlayState D) (seed events number x : ℕ) → events ≤ number → HaveDrawn commands stands p seed events number x q → DrawsAll commands stands p seed events q
  all_drawn p q seed events number x done have w d =
      let h = have w d in
      h.leads q.counts (record {
        run = [];
        counted = none_left;
        generated = tt;
        is_run = tt;
        fronts = alone (EachStood stands) h.world (each_stood commands stands q.kept q.hosts h.world h.draws.stands_for);
        counts = refl;
      })
    where
      none_left : 0 ≡ events - number
      none_left = omega (arith, done)

  pub drawing_on : (p q : PlayState D) (seed events number x : ℕ) → IsDrawing commands stands p → HaveDrawn commands stands p seed events number x q → IsDrawing commands stands q
  drawing_on p q seed events number x drawing have =
      let h = have drawing.world drawing.draws in
      record { world = h.world; draws = h.draws }

  -- ---- from the header on

  first_draws : (h : Header) (p : PlayState D) → Begins commands stands h p → DrawsIn commands stands p (world_with (program_of commands) h)
  first_draws h p begins = record { stands_for = begins.plays.stands_for; timely = first_worlds_are_timely (program_of commands) h }

  pub first_drawing : (h : Header) (p : PlayState D) → Begins commands stands h p → IsDrawing commands stands p
  first_drawing h p begins = record { world = world_with (program_of commands) h; draws = first_draws h p begins }

  -- All events of the seed are drawn from the header's world on.
  pub seed_drawn : (h : Header) (p n : PlayState D) (seed hosts events : ℕ) (paired : Bool) (counts : Counts) → h ≡ gen_header hosts paired → Begins commands stands h p → DrawsAll commands stands p seed events n
      → counts ≡ n.counts → IsDrawn (EachStood stands) hosts events 1 (world_with (program_of commands) (gen_header hosts paired)) seed no_counts counts
  seed_drawn h p n seed hosts events paired counts is begins all same =
      let here : IsDrawn (EachStood stands) h.machines events 1 (world_with (program_of commands) h) seed p.counts n.counts =
      all (world_with (program_of commands) h) (first_draws h p begins) in
      subst (λ (g : Header). IsDrawn (EachStood stands) g.machines events 1 (world_with (program_of commands) g) seed no_counts counts) is
      (subst (λ k. IsDrawn (EachStood stands) h.machines events 1 (world_with (program_of commands) h) seed no_counts k) (sym same)
      (subst (λ k. IsDrawn (EachStood stands) h.machines events 1 (world_with (program_of commands) h) seed k n.counts) begins.counts here))

  -- The two lines are those of a made run.
  pub made_of : (seed hosts events : ℕ) (paired : Bool) (counts : Counts) (text : List ℕ)
      → IsDrawn (EachStood stands) hosts events 1 (world_with (program_of commands) (gen_header hosts paired)) seed no_counts counts
      → text ≡ as_bytes (gen_line seed hosts events paired ∷ end_line counts ∷ []) → MadeOf commands stands seed hosts events paired text
  made_of seed hosts events paired counts text g is =
      record {
        run = g.run;
        generated = g.generated;
        counted = g.counted;
        promised_is = record { is_run = g.is_run; stood = g.fronts };
        printed = is ∙ ap (λ k. as_bytes (gen_line seed hosts events paired ∷ end_line k ∷ [])) (sym g.counts);
      }
