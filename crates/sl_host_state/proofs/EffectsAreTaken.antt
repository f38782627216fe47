-- Ends, signals and grants of a step change nothing that is asked of its calls, sessions and jobs. All questions but those on calls are
-- the same by computation, and those on calls look at an entry's reading and replies alone.
use Rattle.sl_due.specs.Steps.{Step, add_end, add_grant, add_signal, seen, with_effects}
use Rattle.sl_host_state.specs.Effects.{EffectsAreTaken}
use Rattle.sl_host_state.specs.KeptState.{HostState, MemberState}
use Rattle.sl_host_state.specs.MadeEffects.{with_end, with_grant, with_signal}
use Rattle.sl_host_state.specs.HostStands.{AskedStands, WatchKeeps, AreInTurn, JoinStands, Keeps, LeaseStands, MemberStands, Stands, Takes, kept_call, kept_waiting, newest_value}
use Rattle.sl_trace.specs.Counts.{values_on}
use Rattle.sl_trace.specs.Jobs.{child_of_job, command_of}
use Rattle.sl_trace.specs.Leases.{is_lease_call, is_on, spots_in, value_written}
use Rattle.sl_trace.specs.Sessions.{calls_of, ended_after, free_write, generation_in, is_call_of, is_delta_purpose, joined_after, leaving_job, recovery_of, renewal_in, seq_in, sessions}
use Rattle.sl_trace.specs.declared.delta.DeltaKnown.{DeltaKnown}
use Rattle.sl_trace.specs.declared.session.Session.{Session}
use Rattle.sl_trace.specs.Traces.{Submitted, Trace, children, holdings, is_ended_by, is_of_job, is_write, job_numbered, job_of, mark, new_call, running_jobs, same_place, submitted, unanswered}
use Rattle.sl_trace.specs.declared.effects.Call.{Call}
use Rattle.sl_trace.specs.declared.effects.Effects.{Effects}
use Rattle.sl_trace.specs.declared.effects.End.{End}
use Rattle.sl_trace.specs.declared.effects.Grant.{Grant}
use Rattle.sl_trace.specs.declared.effects.Sent.{Sent}
use Rattle.sl_trace.specs.declared.effects.Signal.{Signal}
use Rattle.sl_trace.specs.declared.input.Input.TheVariants.{Answer as Told, Exit, Line, Number, Spawned, Wake}
use Rattle.sl_trace.specs.declared.input.Input.{Input}
use Rattle.sl_words.specs.Orders.{in_order, is_text_before}
use Rattle.std.proofs.Common.{ap, refl, subst, sym, ◌∙◌}
use Rattle.std.proofs.lemmas.List.{append-nil, append_assoc}
use Rattle.std.specs.List.{AllByRecursion, list_any, range_with_len}
use Rattle.std.specs.Prelude.{Bool, IsTrue, List, cond, false, filter, filter_map, find, fold, is_none, is_some, length, map, not, option_map, reverse, true, [], ℕ, ◌&&◌, ◌++◌, ◌+◌, ◌==◌, ◌||◌, ◌∷◌, ◌≡◌}

-- A step with other ends, signals and grants.
abbrev other : List End → List Sent → List Grant → Effects → Effects
other es ss gs fx = record fx { ends = es; signals = ss; grants = gs }

-- The step itself.
abbrev otherwise : List End → List Sent → List Grant → Step → Step
otherwise es ss gs x = with_effects x (other es ss gs x.effects)

module _ (es : List End) (ss : List Sent) (gs : List Grant) where
  marked : (past : Trace) (reading : ℕ) (input i : Input) (fx : Effects) (ms : List Submitted)
      → mark past (record { reading = reading; input = input; effects = other es ss gs fx }) i ms ≡ mark past (record { reading = reading; input = input; effects = fx }) i ms
  marked past reading input (Told n a) fx ms = refl
  marked past reading input (Line text) fx ms = refl
  marked past reading input (Number text) fx ms = refl
  marked past reading input (Exit p) fx ms = refl
  marked past reading input (Spawned p ok) fx ms = refl
  marked past reading input Wake fx ms = refl

  same_calls : (x : Step) → submitted (seen (otherwise es ss gs x)) ≡ submitted (seen x)
  same_calls x =
      ap (λ ms. fold (λ (ns : List Submitted) (c : Call). new_call (length x.past) x.reading c ∷ ns) ms x.effects.calls)
      (marked x.past x.reading x.input x.input x.effects (submitted x.past))

  own_calls : (x : Step) (s : Session) → calls_of (seen (otherwise es ss gs x)) s ≡ calls_of (seen x) s
  own_calls x s = ap (filter (is_call_of s)) (same_calls x)

  -- What is known on the id's sector, by the session's calls.
  abbrev known_by : Step → Session → List Submitted → DeltaKnown
  known_by x s ms =
      record {
        generation = generation_in s ms;
        seq = seq_in s ms;
        renewed = renewal_in s ms;
        busy = list_any (λ m. is_delta_purpose m.call.purpose) (unanswered ms);
        recovering = is_some (recovery_of x.setting (seen x) s);
        leaving = option_map (λ j. j.number) (leaving_job x.setting (seen x) s);
        freed = is_some (free_write ms);
      }

  member_otherwise : (x : Step) (m : MemberState) → MemberStands x.setting (seen x) m → MemberStands x.setting (seen (otherwise es ss gs x)) m
  member_otherwise x m s =
      let own : calls_of (seen (otherwise es ss gs x)) m.who ≡ calls_of (seen x) m.who = own_calls x m.who in
      record {
        joined = s.joined;
        refused = s.refused;
        known = ap (known_by x m.who) own ∙ s.known;
        joining = λ still. subst (λ ms. JoinStands m.joining ms) (sym own) (s.joining still);
        renewing = s.renewing;
        leaving = s.leaving;
        asked = subst (λ ms. AskedStands x.setting m.asked ms) (sym own) s.asked;
        turn = subst (λ ms. AreInTurn (filter (λ c. is_delta_purpose c.call.purpose) ms)) (sym own) s.turn;
        seen = subst (λ ms. WatchKeeps x.setting m.watch ms) (sym own) s.seen;
        spots = ap (spots_in x.setting.layout) own ∙ s.spots;
        leases = λ k l there.
            subst
            (λ ms. LeaseStands x.setting.layout m.who.lockspace (record { id = m.who.id; generation = generation_in m.who ms }) l
            (filter (λ c. is_lease_call c && is_on x.setting.layout l.spot c.call) ms)) (sym own) (s.leases k l there);
        valued = subst
            (λ ms. AllByRecursion (λ d. IsTrue (is_none (value_written d) || list_any (λ l. is_on x.setting.layout l.spot d.call) m.leases)) ms) (sym own) s.valued;
        values = λ k l there. ap (λ ms. newest_value (values_on x.setting.layout l.spot ms)) own ∙ s.values k l there;
      }

  keeps_otherwise : (h : HostState) (fx : Effects) (held : List Grant) (x : Step) → length h.made.calls ≡ length fx.calls → holdings (seen (otherwise es ss gs x)) ≡ held
      → Keeps h x.setting (seen x) → Keeps (record h { made = fx; holdings = held }) x.setting (seen (otherwise es ss gs x))
  keeps_otherwise h fx held x many now k =
      record {
        config = k.config;
        entries = k.entries;
        calls = ap (λ ms. x.setting.first.call + length ms) (same_calls x) ∙ k.calls ∙ ap (λ n. h.first_call + n) many;
        lines = k.lines;
        replied = k.replied;
        started = k.started;
        born = k.born;
        numbered = ap (λ (ms : List Submitted). map (λ m. m.call.number) ms) (same_calls x) ∙ k.numbered
            ∙ sym (ap (λ ms. reverse (range_with_len x.setting.first.call (length ms))) (same_calls x));
        counted = k.counted;
        present = ap
            (λ ms. in_order (λ a b. is_text_before a.lockspace b.lockspace)
            (filter (λ s. is_none (ended_after (seen x) s) || is_none (joined_after (seen x) s) && list_any (λ m. is_write m.call.op) (unanswered (filter (is_call_of s) ms)))
            (sessions x.setting (seen x)))) (same_calls x)
            ∙ k.present;
        members = λ n m there. member_otherwise x m (k.members n m there);
        connected = k.connected;
        unanswered = ap (λ ms. map kept_call (unanswered ms)) (same_calls x) ∙ k.unanswered;
        single = k.single;
        owned = subst
            (λ ms. AllByRecursion (λ j. IsTrue (is_some (job_numbered x.setting (seen x) j))) (filter_map (λ m. job_of m.call.purpose) ms ++ filter_map (λ c. c.job) (children (seen x))))
            (sym (same_calls x)) k.owned;
        jobs = ap
            (λ ms. map
            (λ j. record { number = j.number; command = command_of j; child = child_of_job (seen x) j.number; waits = option_map kept_waiting (find (is_of_job j.number) (unanswered ms)) })
            (running_jobs x.setting (seen x))) (same_calls x)
            ∙ k.jobs;
        holdings = now;
        children = k.children;
        programs = k.programs;
      }

  stands_otherwise : (i : Input) (h : HostState) (fx : Effects) (held : List Grant) (x : Step) → other es ss gs x.effects ≡ fx
      → holdings (seen (otherwise es ss gs x)) ≡ held → Stands i h x → Stands i (record h { made = fx; holdings = held }) (otherwise es ss gs x)
  stands_otherwise i h fx held x is now s =
      record {
        input = s.input;
        past = s.past;
        reading = s.reading;
        before = s.before;
        made = is;
        keeps = keeps_otherwise h fx held x (ap (λ (f : Effects). length f.calls) (sym s.made) ∙ ap (λ (f : Effects). length f.calls) is) now s.keeps;
        quiet = s.quiet;
      }

-- ---- what is held

-- Whether the end is that of the grant.
abbrev ends_it : End → Grant → Bool
ends_it e g = e.process == g.process && same_place e.path e.offset g.path g.offset

any_or : (p : End → Bool) (es : List End) (e : End) → list_any p (es ++ e ∷ []) ≡ (list_any p es || p e)
any_or p [] e = refl_or (p e) where
  refl_or : (b : Bool) → (b || false) ≡ (false || b)
  refl_or true = refl
  refl_or false = refl
any_or p (d ∷ es) e = ap (λ b. p d || b) (any_or p es e) ∙ by (p d) where
  by : (b : Bool) → (b || (list_any p es || p e)) ≡ ((b || list_any p es) || p e)
  by true = refl
  by false = refl

kept_if : {A : Type 0} (q : A → Bool) (a : A) (xs : List A) (b : Bool) → q a ≡ b → filter q (a ∷ xs) ≡ cond b (a ∷ filter q xs) (filter q xs)
kept_if q a xs b is = ap (λ c. cond c (a ∷ filter q xs) (filter q xs)) is

without_both : (p q r : Grant → Bool) (gs : List Grant) → ((g : Grant) → r g ≡ (p g || q g)) → filter (λ g. not (r g)) gs ≡ filter (λ g. not (q g)) (filter (λ g. not (p g)) gs)
without_both p q r [] same = refl
without_both p q r (g ∷ gs) same = by (p g) refl (q g) refl (without_both p q r gs same) where
  by : (b : Bool) → p g ≡ b → (c : Bool) → q g ≡ c → filter (λ g. not (r g)) gs ≡ filter (λ g. not (q g)) (filter (λ g. not (p g)) gs)
      → filter (λ g. not (r g)) (g ∷ gs) ≡ filter (λ g. not (q g)) (filter (λ g. not (p g)) (g ∷ gs))
  by true hp c hq rest =
      kept_if (λ g. not (r g)) g gs false (ap not (same g ∙ ap (λ b. b || q g) hp)) ∙ rest
      ∙ sym (ap (filter (λ g. not (q g))) (kept_if (λ g. not (p g)) g gs false (ap not hp)))
  by false hp true hq rest =
      kept_if (λ g. not (r g)) g gs false (ap not (same g ∙ ap (λ b. b || q g) hp ∙ ap (λ b. false || b) hq)) ∙ rest
      ∙ sym (ap (filter (λ g. not (q g))) (kept_if (λ g. not (p g)) g gs true (ap not hp)) ∙ kept_if (λ g. not (q g)) g (filter (λ g. not (p g)) gs) false (ap not hq))
  by false hp false hq rest =
      kept_if (λ g. not (r g)) g gs true (ap not (same g ∙ ap (λ b. b || q g) hp ∙ ap (λ b. false || b) hq)) ∙ ap (λ zs. g ∷ zs) rest
      ∙ sym (ap (filter (λ g. not (q g))) (kept_if (λ g. not (p g)) g gs true (ap not hp)) ∙ kept_if (λ g. not (q g)) g (filter (λ g. not (p g)) gs) true (ap not hq))

-- An end takes the holding out, as long as the step has granted nothing.
ended_more : (x : Step) (e : End) → x.effects.grants ≡ [] → holdings (seen (add_end e x)) ≡ filter (λ g. not (ends_it e g)) (holdings (seen x))
ended_more x e none =
    ap (λ gs. filter (λ g. not (is_ended_by (x.effects.ends ++ e ∷ []) g)) (holdings x.past) ++ gs) none
    ∙ append-nil (filter (λ g. not (is_ended_by (x.effects.ends ++ e ∷ []) g)) (holdings x.past))
    ∙ without_both (is_ended_by x.effects.ends) (ends_it e) (is_ended_by (x.effects.ends ++ e ∷ [])) (holdings x.past) (λ g. any_or (λ d. ends_it d g) x.effects.ends e)
    ∙ ap (filter (λ g. not (ends_it e g))) (sym (append-nil (filter (λ g. not (is_ended_by x.effects.ends g)) (holdings x.past))) ∙ sym (ap (λ gs. filter (λ g. not (is_ended_by x.effects.ends g)) (holdings x.past) ++ gs) none))

-- A grant comes behind all.
granted_more : (x : Step) (g : Grant) → holdings (seen (add_grant g x)) ≡ holdings (seen x) ++ g ∷ []
granted_more x g = sym (append_assoc (filter (λ g. not (is_ended_by x.effects.ends g)) (holdings x.past)) x.effects.grants (g ∷ []))

-- ---- the laws

signal_taken : (p : ℕ) (s : Signal) (h : HostState) → Takes h (with_signal p s h) (add_signal p s)
signal_taken p s h i x stands =
    stands_otherwise x.effects.ends (x.effects.signals ++ record { process = p; signal = s } ∷ []) x.effects.grants i h (with_signal p s h).made h.holdings x
    (ap (λ (f : Effects). record f { signals = f.signals ++ record { process = p; signal = s } ∷ [] }) stands.made) stands.keeps.holdings stands

grant_taken : (g : Grant) (h : HostState) → Takes h (with_grant g h) (add_grant g)
grant_taken g h i x stands =
    stands_otherwise x.effects.ends x.effects.signals (x.effects.grants ++ g ∷ []) i h (with_grant g h).made (h.holdings ++ g ∷ []) x
    (ap (λ (f : Effects). record f { grants = f.grants ++ g ∷ [] }) stands.made) (granted_more x g ∙ ap (λ hs. hs ++ g ∷ []) stands.keeps.holdings) stands

end_taken : (e : End) (h : HostState) → h.made.grants ≡ [] → Takes h (with_end e h) (add_end e)
end_taken e h none i x stands =
    stands_otherwise (x.effects.ends ++ e ∷ []) x.effects.signals x.effects.grants i h (with_end e h).made (filter (λ g. not (ends_it e g)) h.holdings) x
    (ap (λ (f : Effects). record f { ends = f.ends ++ e ∷ [] }) stands.made)
    (ended_more x e (ap (λ (f : Effects). f.grants) stands.made ∙ none) ∙ ap (filter (λ g. not (ends_it e g))) stands.keeps.holdings) stands

pub effects_are_taken : EffectsAreTaken
effects_are_taken = record { signal = signal_taken; grant = grant_taken; ended = end_taken }
