-- The state after a refusal stands for the step with it.
use Rattle.sl_host_law.specs.Answers.RefusalsFollow.{IsAlone, RefusalsFollow, refusing, timing_out}
use Rattle.sl_host_law.proofs.StepParts.EndsAreTaken.{ends_are_taken}
use Rattle.sl_host_law.specs.StepParts.Ends.{removing}
use Rattle.sl_due.specs.DueTimeOuts.{refuse, remove_connection}
use Rattle.sl_due.specs.Steps.{Step, add_reply, when, with_some}
use Rattle.sl_host_law.proofs.SharedFacts.PlainLists.{at_some, in_flat}
use Rattle.sl_host_state.specs.KeptState.{HostState, MemberState}
use Rattle.sl_host_state.specs.MadeEffects.{has_write_open, is_ended_by_move, member_answered, member_replying, with_reply}
use Rattle.sl_host_state.specs.HostStands.{Stands, is_joining}
use Rattle.sl_host_state.specs.declared.kept_parts.JobState.{JobState}
use Rattle.sl_host_state.specs.declared.kept_parts.WaitingCall.{WaitingCall}
use Rattle.sl_words.proofs.Lists.{any_of, contains_cases, contains_none, got_inside}
use Rattle.sl_words.proofs.Numbers.{number_itself}
use Rattle.sl_host_law.proofs.Questions.PartsAreTold.{hosts_part}
use Rattle.sl_host_law.proofs.Questions.RefusalsAreTold.{refusals_are_told}
use Rattle.sl_host_law.specs.Questions.Jobs.{is_overdue_in, joining_in}
use Rattle.sl_host_law.specs.Questions.PartQuestions.{time_out_of}
use Rattle.sl_host_law.proofs.Replies.RepliesAreTaken.RepliesKeepHosts.{replies_are_taken}
use Rattle.sl_host_law.specs.Replies.Moves.{EndsBegun}
use Rattle.sl_host_law.specs.Replies.RepliesAreTaken.{MayReply}
use Rattle.sl_trace.specs.Sessions.{is_join_done}
use Rattle.sl_trace.specs.declared.effects.Move.TheVariants.{Register, Renew, Unregister}
use Rattle.sl_trace.specs.declared.effects.Move.{Move}
use Rattle.sl_trace.specs.declared.input.Input.TheVariants.{Wake}
use Rattle.sl_trace.specs.declared.input.Input.{Input}
use Rattle.sl_trace.specs.declared.reply.Reply.TheVariants.{IoTimeout}
use Rattle.sl_trace.specs.declared.reply.Reply.{Reply}
use Rattle.sl_words.proofs.CaseLaws.{true_is_false}
use Rattle.sl_words.specs.Words.{some_is}
use Rattle.std.proofs.Common.{inl, inr, refl, subst, sym, ◌∙◌}
use Rattle.std.specs.List.{list_any}
use Rattle.std.specs.Prelude.{Bool, Contains, IsTrue, None, Option, Some, cond, false, flat_map, is_some, not, slice_get, true, [], ℕ, ◌&&◌, ◌==◌, ◌∷◌, ◌≡◌, ◌||◌, ◌⊎◌}

-- ---- after a reply that joins nobody the same are joined

ends_still : (move : Move) (job : ℕ) (r : Reply) (h : HostState) → is_join_done r ≡ false → EndsBegun move h → EndsBegun move (with_reply job r h)
ends_still move job r h not_done begun k x at ends =
    let old = in_flat (member_replying h job r) h.members x (got_inside (flat_map (member_replying h job r) h.members) k x at) in
    by old.0 (old_begun old.0 old.1) (is_joining old.0 && some_is (λ j. j == job) old.0.who.job) old.2 where
      old_begun : (m : MemberState) → Contains h.members m → is_ended_by_move move m ≡ true → IsTrue (is_some m.renewing.recovery || is_some m.leaving)
      old_begun m there is = let place = at_some h.members m there in begun place.0 m place.1 is

      same_end : (v : Move) (m : MemberState) → is_ended_by_move v (record m { refused = true }) ≡ is_ended_by_move v m
      same_end (Register name expiry) m = refl
      same_end (Renew name expiry) m = refl
      same_end (Unregister name) m = refl

      answered : (m : MemberState) → (is_ended_by_move move m ≡ true → IsTrue (is_some m.renewing.recovery || is_some m.leaving)) → (done writes : Bool) → done ≡ false
          → Contains (cond done (record m { joined = true } ∷ []) (cond writes (record m { refused = true } ∷ []) [])) x → IsTrue (is_some x.renewing.recovery || is_some x.leaving)
      answered m was true writes none there = absurd (true_is_false none)
      answered m was false true none there = one (contains_cases (record m { refused = true }) [] x there) where
        one : (record m { refused = true } ≡ x) ⊎ Contains [] x → IsTrue (is_some x.renewing.recovery || is_some x.leaving)
        one (inl same) =
            subst (λ (z : MemberState). IsTrue (is_some z.renewing.recovery || is_some z.leaving)) same
            (was (sym (same_end move m) ∙ subst (λ (z : MemberState). is_ended_by_move move z ≡ true) (sym same) ends))
        one (inr nothing) = absurd (contains_none x nothing)
      answered m was false false none there = absurd (contains_none x there)

      by : (m : MemberState) → (is_ended_by_move move m ≡ true → IsTrue (is_some m.renewing.recovery || is_some m.leaving)) → (b : Bool) → Contains (cond b (member_answered h r m) (m ∷ [])) x
          → IsTrue (is_some x.renewing.recovery || is_some x.leaving)
      by m was true there = answered m was (is_join_done r) (has_write_open h m.who.number) not_done there
      by m was false there = one (contains_cases m [] x there) where
        one : (m ≡ x) ⊎ Contains [] x → IsTrue (is_some x.renewing.recovery || is_some x.leaving)
        one (inl same) = subst (λ (z : MemberState). IsTrue (is_some z.renewing.recovery || is_some z.leaving)) same (was (subst (λ (z : MemberState). is_ended_by_move move z ≡ true) (sym same) ends))
        one (inr nothing) = absurd (contains_none x nothing)

refused : (job : ℕ) (r : Reply) (i : Input) (h : HostState) (x : Step) → Stands i h x → MayReply i h x job r → is_join_done r ≡ false → IsAlone job h → Stands i (refusing job r h) (refuse job r x)
refused job r i h x s may not_done alone =
    subst (λ (y : Step). Stands i (refusing job r h) y) (sym (refusals_are_told.refused i h x job r s may not_done)) (by (joining_in h job) refl) where
      said : Stands i (with_reply job r h) (add_reply job r x)
      said = replies_are_taken job r i h x s may

      one : (m : MemberState) → joining_in h job ≡ Some m → (b : Bool)
          → Stands i (cond b (removing m.who.lockspace (with_reply job r h)) (with_reply job r h)) (when b (remove_connection m.who.lockspace) (add_reply job r x))
      one m is true =
          ends_are_taken.connection i (with_reply job r h) (add_reply job r x) m.who.lockspace (replies_are_taken job r i h x s may) (ends_still (Unregister m.who.lockspace) job r h not_done (alone m is))
      one m is false = replies_are_taken job r i h x s may

      by : (o : Option MemberState) → joining_in h job ≡ o
          → Stands i
          (elim o as (λ z. HostState) [
            | None ↦ with_reply job r h
            | Some m ↦ cond (not (has_write_open h m.who.number)) (removing m.who.lockspace (with_reply job r h)) (with_reply job r h)
          ])
          (elim o as (λ z. Step) [
            | None ↦ add_reply job r x
            | Some m ↦ when (not (has_write_open h m.who.number)) (remove_connection m.who.lockspace) (add_reply job r x)
          ])
      by None is = replies_are_taken job r i h x s may
      by (Some m) is = one m is (not (has_write_open h m.who.number))

timed_out : (k : ℕ) (j : JobState) (h : HostState) (x : Step) → Stands Wake h x → slice_get h.jobs k ≡ Some j → IsAlone j.number h → Stands Wake (timing_out j h) (time_out_of j.number x)
timed_out k j h x s there alone = subst (λ (y : Step). Stands Wake (timing_out j h) y) (sym ((hosts_part Wake h x s).time_out k j there)) (by j.waits) where
  runs : list_any (λ (z : JobState). z.number == j.number) h.jobs ≡ true
  runs = any_of (λ (z : JobState). z.number == j.number) h.jobs j (number_itself j.number) (got_inside h.jobs k j there)

  one : (c : WaitingCall) (b : Bool)
      → Stands Wake (cond b (refusing j.number (IoTimeout c.number c.reading h.reading) h) h) (when b (refuse j.number (IoTimeout c.number c.reading h.reading)) x)
  one c true =
      refused j.number (IoTimeout c.number c.reading h.reading) Wake h x s
      (record { runs = any_of (λ (z : JobState). z.number == j.number) h.jobs j (number_itself j.number) (got_inside h.jobs k j there); heed = tt; line = tt }) refl alone
  one c false = s

  by : (o : Option WaitingCall)
      → Stands Wake (elim o as (λ z. HostState) [ None ↦ h | Some c ↦ cond (is_overdue_in h c) (refusing j.number (IoTimeout c.number c.reading h.reading) h) h ])
      (with_some o (λ c. when (is_overdue_in h c) (refuse j.number (IoTimeout c.number c.reading h.reading))) x)
  by None = s
  by (Some c) = one c (is_overdue_in h c)

pub refusals_follow : RefusalsFollow
refusals_follow = record { refused = refused; timed_out = timed_out }
