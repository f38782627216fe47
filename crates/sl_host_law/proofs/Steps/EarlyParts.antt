-- What comes before the input leaves a step that has come to it.
use Rattle.sl_host_law.specs.Answers.RefusalsFollow.{refusing, timing_out}
use Rattle.sl_host_law.proofs.SharedFacts.PlainLists.{all_both, in_flat}
use Rattle.sl_host_state.specs.StepQuestions.{begins_in, is_kill_due_in, stopper_in}
use Rattle.sl_host_state.specs.KeptState.{HostState, MemberState}
use Rattle.sl_host_state.specs.MadeEffects.{has_write_open, is_ended_by_move, member_answered, member_replying, with_move, with_reply, with_signal, with_start}
use Rattle.sl_host_state.specs.Passes.{whos}
use Rattle.sl_host_state.specs.HostStands.{is_joining}
use Rattle.sl_host_state.specs.declared.kept_parts.JobState.{JobState}
use Rattle.sl_host_state.specs.declared.kept_parts.WaitingCall.{WaitingCall}
use Rattle.sl_host_law.specs.Steps.SoundHosts.{IsEarly}
use Rattle.sl_host_law.specs.StepParts.Ends.{removing}
use Rattle.sl_host_law.specs.StepParts.Recoveries.{killing, recovering_in}
use Rattle.sl_host_law.specs.StepParts.Refusals.{jobs_but, numbers_of, signalling_and_refusing}
use Rattle.sl_host_law.specs.StepParts.Signals.{over, sending, signalling, telling}
use Rattle.sl_words.proofs.Lists.{contains_cases, contains_map, contains_none, in_map, kept_inside}
use Rattle.sl_host_law.specs.Questions.Jobs.{is_overdue_in, joining_in}
use Rattle.sl_host_law.specs.Questions.Members.{holders_in}
use Rattle.sl_trace.specs.Sessions.{is_join_done}
use Rattle.sl_trace.specs.declared.session.Session.{Session}
use Rattle.sl_trace.specs.Traces.{first_child, is_before_input}
use Rattle.sl_trace.specs.declared.effects.Move.TheVariants.{Unregister}
use Rattle.sl_trace.specs.declared.effects.Move.{Move}
use Rattle.sl_trace.specs.declared.effects.Signal.TheVariants.{Kill, Term}
use Rattle.sl_trace.specs.declared.effects.Signal.{Signal}
use Rattle.sl_trace.specs.declared.reply.Reply.TheVariants.{IoTimeout, Recovering}
use Rattle.sl_trace.specs.declared.reply.Reply.{Reply}
use Rattle.sl_words.specs.Words.{some_is}
use Rattle.std.proofs.Common.{ap, inl, inr, refl, subst, ◌∙◌}
use Rattle.std.specs.List.{list_any}
use Rattle.std.specs.Prelude.{Bool, Contains, IsTrue, List, None, Option, Some, bytes_eq, cond, false, filter, flat_map, not, true, [], ℕ, ◌+◌, ◌&&◌, ◌==◌, ◌∷◌, ◌≡◌, ◌||◌}

-- ---- members after a reply and after a move are members

pub was_member : (h : HostState) (job : ℕ) (r : Reply) (s : Session) → Contains (whos (with_reply job r h)) s → Contains (whos h) s
was_member h job r s there = one (in_map (λ (m : MemberState). m.who) (flat_map (member_replying h job r) h.members) s there) where
  answered : (m z : MemberState) (b c : Bool) → Contains (cond b (record m { joined = true } ∷ []) (cond c (record m { refused = true } ∷ []) [])) z → m.who ≡ z.who
  answered m z true c at = elim (contains_cases (record m { joined = true }) [] z at) [ inl is ↦ ap (λ (y : MemberState). y.who) is | inr none ↦ absurd (contains_none z none) ]
  answered m z false true at = elim (contains_cases (record m { refused = true }) [] z at) [ inl is ↦ ap (λ (y : MemberState). y.who) is | inr none ↦ absurd (contains_none z none) ]
  answered m z false false at = absurd (contains_none z at)

  same : (m z : MemberState) (b : Bool) → Contains (cond b (member_answered h r m) (m ∷ [])) z → m.who ≡ z.who
  same m z true at = answered m z (is_join_done r) (has_write_open h m.who.number) at
  same m z false at = elim (contains_cases m [] z at) [ inl is ↦ ap (λ (y : MemberState). y.who) is | inr none ↦ absurd (contains_none z none) ]

  one : (z : MemberState) × Contains (flat_map (member_replying h job r) h.members) z × (z.who ≡ s) → Contains (whos h) s
  one z =
      let from = in_flat (member_replying h job r) h.members z.0 z.1 in
      subst (Contains (whos h)) (same from.0 z.0 (is_joining from.0 && some_is (λ j. j == job) from.0.who.job) from.2 ∙ z.2) (contains_map (λ (m : MemberState). m.who) h.members from.0 from.1)

pub was_there : (h : HostState) (move : Move) (s : Session) → Contains (whos (with_move move h)) s → Contains (whos h) s
was_there h move s there =
    let z = in_map (λ (m : MemberState). m.who) (filter (λ m. not (is_ended_by_move move m)) h.members) s there in
    subst (Contains (whos h)) z.2 (contains_map (λ (m : MemberState). m.who) h.members z.0 (kept_inside (λ m. not (is_ended_by_move move m)) h.members z.0 z.1).0)

-- ---- each change

signal_early : (p : ℕ) (s : Signal) (h : HostState) → IsEarly h → IsEarly (with_signal p s h)
signal_early p s h e = record { at = record { calls = e.at.calls; replies = e.at.replies }; grants = e.grants; names = e.names }

telling_early : (p : ℕ) (h : HostState) → IsEarly h → IsEarly (telling p h)
telling_early p h e = by (stopper_in h p) where
  by : (o : Option (List ℕ)) → IsEarly (elim o as (λ z. HostState) [
    | None ↦ with_signal p Term h
    | Some program ↦ with_start (record { process = first_child + h.started; program = program; job = None; stands_for = Some p }) h
  ])
  by None = signal_early p Term h e
  by (Some program) = record { at = record { calls = e.at.calls; replies = e.at.replies }; grants = e.grants; names = e.names }

sending_early : (p : ℕ) (s : Signal) (h : HostState) → IsEarly h → IsEarly (sending p s h)
sending_early p Term h e = telling_early p h e
sending_early p Kill h e = signal_early p Kill h e

pub over_keeps : {A : Type 0} (P : HostState → Type 0) (xs : List A) (f : A → HostState → HostState) (h : HostState) → ((a : A) (g : HostState) → P g → P (f a g)) → P h → P (over xs f h)
over_keeps P [] f h keeps p = p
over_keeps P (x ∷ xs) f h keeps p = over_keeps P xs f (f x h) keeps (keeps x h p)

signalling_early : (s : Signal) (m : MemberState) (h : HostState) → IsEarly h → IsEarly (signalling s m h)
signalling_early s m h e = over_keeps IsEarly (holders_in h m) (λ p. sending p s) h (λ p g k. sending_early p s g k) e

reply_early : (n : ℕ) (r : Reply) (h : HostState) → is_before_input r ≡ true → IsEarly h → IsEarly (with_reply n r h)
reply_early n r h early e =
    record {
      at = record { calls = e.at.calls; replies = all_both (λ a. IsTrue (is_before_input a.reply)) h.made.replies (record { job = n; reply = r } ∷ []) e.at.replies (early, tt) };
      grants = e.grants;
      names = λ s t a b. e.names s t (was_member h n r s a) (was_member h n r t b);
    }

removing_early : (name : List ℕ) (h : HostState) → IsEarly h → IsEarly (removing name h)
removing_early name h e = by (list_any (λ n. bytes_eq n name) h.connected) where
  by : (b : Bool) → IsEarly (cond b (with_move (Unregister name) h) h)
  by true = record { at = record { calls = e.at.calls; replies = e.at.replies }; grants = e.grants; names = λ s t a b. e.names s t (was_there h (Unregister name) s a) (was_there h (Unregister name) t b) }
  by false = e

-- ---- the parts

stopping_early : (m : MemberState) (kept : Option ℕ) (h : HostState) → IsEarly h → IsEarly (signalling_and_refusing m kept h)
stopping_early m kept h e =
    over_keeps IsEarly (numbers_of (jobs_but kept (signalling Term m h) m)) (λ n. with_reply n (Recovering m.renewing.last)) (signalling Term m h)
    (λ n g k. reply_early n (Recovering m.renewing.last) g refl k) (signalling_early Term m h e)

pub recovering_early : (m : MemberState) (h : HostState) → IsEarly h → IsEarly (recovering_in m h)
recovering_early m h e = by (begins_in h m.renewing.recovery) where
  by : (b : Bool) → IsEarly (cond b (signalling_and_refusing m None h) h)
  by true = stopping_early m None h e
  by false = e

pub killing_early : (m : MemberState) (h : HostState) → IsEarly h → IsEarly (killing m h)
killing_early m h e = by (m.joined && (is_kill_due_in h m.renewing.recovery || is_kill_due_in h m.leaving)) where
  by : (b : Bool) → IsEarly (cond b (signalling Kill m h) h)
  by true = signalling_early Kill m h e
  by false = e

refusing_early : (n : ℕ) (r : Reply) (h : HostState) → is_before_input r ≡ true → IsEarly h → IsEarly (refusing n r h)
refusing_early n r h early e = by (joining_in h n) where
  one : (m : MemberState) (b : Bool) → IsEarly (cond b (removing m.who.lockspace (with_reply n r h)) (with_reply n r h))
  one m true = removing_early m.who.lockspace (with_reply n r h) (reply_early n r h early e)
  one m false = reply_early n r h early e

  by : (o : Option MemberState) → IsEarly (elim o as (λ z. HostState) [
    | None ↦ with_reply n r h
    | Some m ↦ cond (not (has_write_open h m.who.number)) (removing m.who.lockspace (with_reply n r h)) (with_reply n r h)
  ])
  by None = reply_early n r h early e
  by (Some m) = one m (not (has_write_open h m.who.number))

pub timing_early : (j : JobState) (h : HostState) → IsEarly h → IsEarly (timing_out j h)
timing_early j h e = by j.waits where
  one : (c : WaitingCall) (b : Bool) → IsEarly (cond b (refusing j.number (IoTimeout c.number c.reading h.reading) h) h)
  one c true = refusing_early j.number (IoTimeout c.number c.reading h.reading) h refl e
  one c false = e

  by : (o : Option WaitingCall) → IsEarly (elim o as (λ z. HostState) [ None ↦ h | Some c ↦ cond (is_overdue_in h c) (refusing j.number (IoTimeout c.number c.reading h.reading) h) h ])
  by None = e
  by (Some c) = one c (is_overdue_in h c)

-- ---- no connection is moved while recoveries begin

abbrev pub Unmoved : HostState → Type 0
Unmoved h = h.made.moves ≡ []

sending_unmoved : (p : ℕ) (s : Signal) (h : HostState) → Unmoved h → Unmoved (sending p s h)
sending_unmoved p Kill h e = e
sending_unmoved p Term h e = by (stopper_in h p) where
  by : (o : Option (List ℕ)) → Unmoved (elim o as (λ z. HostState) [
    | None ↦ with_signal p Term h
    | Some program ↦ with_start (record { process = first_child + h.started; program = program; job = None; stands_for = Some p }) h
  ])
  by None = e
  by (Some program) = e

pub recovering_unmoved : (m : MemberState) (h : HostState) → Unmoved h → Unmoved (recovering_in m h)
recovering_unmoved m h e = by (begins_in h m.renewing.recovery) where
  by : (b : Bool) → Unmoved (cond b (signalling_and_refusing m None h) h)
  by true =
      over_keeps Unmoved (numbers_of (jobs_but None (signalling Term m h) m)) (λ n. with_reply n (Recovering m.renewing.last)) (signalling Term m h)
      (λ n g k. k) (over_keeps Unmoved (holders_in h m) (λ p. sending p Term) h (λ p g k. sending_unmoved p Term g k) e)
  by false = e
