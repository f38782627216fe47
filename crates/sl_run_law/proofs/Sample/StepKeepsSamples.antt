-- What is kept of each call by a step of the daemon, or of the machine itself.
use Rattle.sl_words.proofs.Numbers.{zero_least}
use Rattle.sl_run.specs.EventChanges.{change_call, close_answered, daemon_number, new_course, take_step}
use Rattle.sl_run.specs.Refusals.{sectors_of}
use Rattle.sl_run.specs.Worlds.{Course, Machine, Sampling, Stamp, World, machine_at, stamp_now}
use Rattle.sl_run_law.proofs.CoursesGoOn.{told}
use Rattle.sl_run_law.proofs.MachineWalk.{each_step}
use Rattle.sl_run_law.specs.FatesStay.{Every}
use Rattle.sl_run_law.specs.Machines.{EachMachine}
use Rattle.sl_run_law.proofs.Sample.AnsweredReads.{HasAll, HasAllIf, IsReady}
use Rattle.sl_run_law.proofs.Sample.OnlyCall.{every_both, every_changed}
use Rattle.sl_run_law.proofs.Sample.DisksGoOn.{StepOver, step_over}
use Rattle.sl_run_law.proofs.Sample.SamplesSee.{Sees, all_later, sees_later}
use Rattle.sl_run_law.specs.Sample.Samples.{IsSampleOf}
use Rattle.sl_trace.specs.Traces.{is_ok_answer}
use Rattle.sl_trace.specs.declared.effects.Call.{Call}
use Rattle.sl_trace.specs.declared.effects.Effects.{Effects}
use Rattle.sl_trace.specs.declared.input.Answer.{Answer}
use Rattle.sl_trace.specs.declared.input.Input.TheVariants.{Answer as Told, Exit, Line, Number, Spawned, Wake}
use Rattle.sl_trace.specs.declared.input.Input.{Input}
use Rattle.sl_words.proofs.CaseLaws.{false_is_true, none_some, some_value}
use Rattle.std.proofs.Common.{arith, refl, subst, sym}
use Rattle.std.specs.Prelude.{Bool, List, Option, Some, false, fold, true, [], ℕ, ◌*◌, ◌<◌, ◌==◌, ◌∷◌, ◌≡◌, ◌≤◌}

-- ---- new calls

no_sectors : (s : ℕ) → 0 ≡ 0 * s
no_sectors s = omega arith

new_sees : (u : World) (now : Stamp) (n : ℕ) (c : Call) → (now.step < u.step) × (now.moment ≤ u.moment) → Sees u (new_course now n c)
new_sees u now n c made =
    record {
      sized = no_sectors u.layout.sector;
      few = zero_least (sectors_of c.op);
      whole = λ done reads. absurd (false_is_true done);
      made = made;
      past = λ k s at. absurd (none_some s at);
      shows = λ k s at. absurd (none_some s at);
      order = λ j k s t one two le. absurd (none_some s one);
    }

all_made : (u : World) (now : Stamp) (n : ℕ) (cs : List Course) (calls : List Call) → (now.step < u.step) × (now.moment ≤ u.moment) → Every (Sees u) cs
    → Every (Sees u) (fold (λ xs c. new_course now n c ∷ xs) cs calls)
all_made u now n cs [] made h = h
all_made u now n cs (c ∷ calls) made h = all_made u now n (new_course now n c ∷ cs) calls made (new_sees u now n c made, h)

-- ---- answers

told_sample : (u : World) (now : Stamp) (ok : Bool) (c : Course) (k : ℕ) (s : Sampling) → (s.step < now.step) × (s.moment ≤ now.moment) → IsSampleOf u c k s
    → IsSampleOf u (told now ok c) k s
told_sample u now ok c k s before i =
    record {
      landing = i.landing;
      seen = i.seen;
      bytes = i.bytes;
      newest = i.newest;
      before_next = i.before_next;
      after = i.after;
      before = λ t is. subst (λ (x : Stamp). (s.step < x.step) × (s.moment ≤ x.moment)) (some_value now t is) before;
    }

told_sees : (v u : World) (now : Stamp) (ok : Bool) (c : Course) → StepOver v u → now.step ≡ v.step → now.moment ≡ v.moment → (ok ≡ true → HasAll c) → Sees v c
    → Sees u (told now ok c)
told_sees v u now ok c o step moment all h =
    let later : Sees u c = sees_later v u c o.onward h in
    record {
      sized = later.sized;
      few = later.few;
      whole = all;
      made = later.made;
      past = later.past;
      shows = λ k s at.
          let p = h.past k s at in
          told_sample u now ok c k s (subst (λ n. s.step < n) (sym step) p.0, subst (λ n. s.moment ≤ n) (sym moment) p.1) (later.shows k s at);
      order = later.order;
    }

answered_keeps : (v u : World) (now : Stamp) (n : ℕ) (answer : Answer) (a : Machine) (b : Bool) → is_ok_answer answer ≡ b → StepOver v u → now.step ≡ v.step → now.moment ≡ v.moment
    → (b ≡ true → Every (HasAllIf n) a.calls) → Every (Sees v) a.calls → Every (Sees u) (change_call n (told now b) a).calls
answered_keeps v u now n answer a true is o step moment all h =
    every_changed (λ c. HasAllIf n c × Sees v c) (Sees u) (λ c. c.call.number == n) (told now true) a.calls
    (λ c t both. told_sees v u now true c o step moment (λ ok. both.0 t) both.1) (λ c t both. sees_later v u c o.onward both.1)
    (every_both (HasAllIf n) (Sees v) a.calls (all refl) h)
answered_keeps v u now n answer a false is o step moment all h =
    every_changed (Sees v) (Sees u) (λ c. c.call.number == n) (told now false) a.calls
    (λ c t s. told_sees v u now false c o step moment (λ ok. absurd (false_is_true ok)) s) (λ c t s. sees_later v u c o.onward s) h

closed_keeps : (v u : World) (now : Stamp) (i : Input) (a : Machine) → StepOver v u → now.step ≡ v.step → now.moment ≡ v.moment → IsReady i a.calls → Every (Sees v) a.calls
    → Every (Sees u) (close_answered now i a).calls
closed_keeps v u now (Told n answer) a o step moment ready h = answered_keeps v u now n answer a (is_ok_answer answer) refl o step moment ready h
closed_keeps v u now (Line text) a o step moment ready h = all_later v u a.calls o.onward h
closed_keeps v u now (Number text) a o step moment ready h = all_later v u a.calls o.onward h
closed_keeps v u now Wake a o step moment ready h = all_later v u a.calls o.onward h
closed_keeps v u now (Exit p) a o step moment ready h = all_later v u a.calls o.onward h
closed_keeps v u now (Spawned p ok) a o step moment ready h = all_later v u a.calls o.onward h

-- ---- a step

abbrev pub Stepping : World → World → ℕ → Machine → Machine → Type 0
Stepping v u m a b = Every (Sees v) a.calls → Every (Sees u) b.calls

-- Each call is seen after a step, where those that its input answers ok have sampled all.
pub step_keeps : (m : ℕ) (o : Option Input) (fx : Effects) (v : World) → ((a : Machine) (i : Input) → machine_at v m ≡ Some a → o ≡ Some i → IsReady i a.calls)
    → EachMachine (Stepping v (take_step m o fx v)) v (take_step m o fx v)
step_keeps m o fx v ready =
    let u : World = take_step m o fx v in
    let s : StepOver v u = step_over m o fx v in
    each_step (Stepping v u) m o fx v (λ n a h. all_later v u a.calls s.onward h)
    (λ none a at h. all_made u (stamp_now v a) (daemon_number a) a.calls fx.calls (s.later, s.onward.moment) (all_later v u a.calls s.onward h))
    (λ i is a at h.
    let now : Stamp = stamp_now v a in
    let b : Machine = close_answered now i a in
    all_made u now (daemon_number b) b.calls fx.calls (s.later, s.onward.moment) (closed_keeps v u now i a s refl refl (ready a i at is) h))
