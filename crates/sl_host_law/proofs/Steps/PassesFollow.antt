-- A pass over members follows a pass over sessions: each member is found again, and for a session that is gone nothing is due.
use Rattle.sl_due_facts.proofs.Acts.SessionsStay.{Stays}
use Rattle.sl_due_facts.specs.Acts.Acts.{Has}
use Rattle.sl_due.specs.Steps.{Step, for_each, seen}
use Rattle.sl_due.specs.DueWake.{for_sessions}
use Rattle.sl_host_law.proofs.SharedFacts.MembersAreSessions.{members_are_sessions}
use Rattle.sl_host_law.proofs.SharedFacts.PlainLists.{at_some}
use Rattle.sl_host_state.specs.KeptState.{HostState, MemberState}
use Rattle.sl_host_state.specs.HostStands.{Stands}
use Rattle.sl_host_law.specs.Steps.Passes.{at_member, for_members, member_numbered}
use Rattle.sl_host_law.specs.StepParts.Recoveries.{IsGone}
use Rattle.sl_host_law.specs.StepParts.Signals.{over}
use Rattle.sl_due_facts.proofs.Acts.WakesKeep.{present_has}
use Rattle.sl_words.proofs.Lists.{contains_first, contains_more, find_fails, find_inside, any_found}
use Rattle.sl_host_law.specs.Questions.Members.{IsMemberAt}
use Rattle.sl_trace.specs.Sessions.{present_sessions, session_numbered}
use Rattle.sl_trace.specs.declared.session.Session.{Session}
use Rattle.sl_trace.specs.declared.input.Input.{Input}
use Rattle.sl_words.proofs.CaseLaws.{is_false, some_value, true_is_false}
use Rattle.std.proofs.Common.{ap, refl, subst, sym, ◌∙◌}
use Rattle.std.proofs.lemmas.Bool.Decides.{Decides-eqb}
use Rattle.std.specs.List.{list_any}
use Rattle.std.specs.Prelude.{Contains, List, None, Option, Some, false, map, slice_get, true, [], ℕ, ◌==◌, ◌∷◌, ◌≡◌}

-- What is asked of a pass: a state after a part follows the step after it and keeps P; nothing is done for a session that is gone; and
-- sessions stay.
pub record IsPass (i : Input) (P : HostState → Type 0) (f : MemberState → HostState → HostState) (g : Session → Step → Step) : Type 0 where
  pub takes : (h : HostState) (x : Step) (k : ℕ) (m : MemberState) → P h → IsMemberAt i h x k m → Stands i (f m h) (g m.who x)
  pub keeps : (h : HostState) (x : Step) (k : ℕ) (m : MemberState) → P h → IsMemberAt i h x k m → P (f m h)
  pub gone : (h : HostState) (x : Step) (s : Session) → P h → IsGone i h x s → g s x ≡ x
  pub stays : (x y : Step) (s : Session) → Has x s → Stays x y → Stays x (g s y)

pub record Passed (i : Input) (P : HostState → Type 0) (h : HostState) (x : Step) : Type 0 where
  pub stands : Stands i h x
  pub kept : P h

module _ (i : Input) (P : HostState → Type 0) (f : MemberState → HostState → HostState) (g : Session → Step → Step) (is : IsPass i P f g) where
  -- The member of a session's number is its member.
  its_member : (h : HostState) (x : Step) (s : Session) (k : ℕ) (m : MemberState) → Stands i h x → Has x s → slice_get h.members k ≡ Some m → (m.who.number == s.number) ≡ true → m.who ≡ s
  its_member h x s k m stands has there same =
      let own : session_numbered x.setting (seen x) m.who.number ≡ Some m.who = (members_are_sessions h x.setting (seen x) k m stands.keeps there).0 in
      some_value m.who s (sym own ∙ ap (session_numbered x.setting (seen x)) ((Decides-eqb m.who.number s.number).0 same) ∙ has)

  one : (h : HostState) (x : Step) (s : Session) → Has x s → Passed i P h x → Passed i P (at_member s.number f h) (g s x)
  one h x s has p = by (member_numbered h s.number) refl where
    by : (o : Option MemberState) → member_numbered h s.number ≡ o → Passed i P (elim o as (λ z. HostState) [ None ↦ h | Some m ↦ f m h ]) (g s x)
    by None none =
        let absent : list_any (λ m. m.who.number == s.number) h.members ≡ false =
        is_false (list_any (λ (m : MemberState). m.who.number == s.number) h.members) (λ some.
        (let d = any_found (λ (m : MemberState). m.who.number == s.number) h.members some in
        true_is_false (sym d.2 ∙ find_fails (λ (m : MemberState). m.who.number == s.number) h.members d.0 none d.1)))
        in
        subst (λ y. Passed i P h y) (sym (is.gone h x s p.kept (record { stands = p.stands; its = has; absent = absent }))) p
    by (Some m) some =
        let found = find_inside (λ (z : MemberState). z.who.number == s.number) h.members m some in
        let at = at_some h.members m found.0 in
        let same : m.who ≡ s = its_member h x s at.0 m p.stands has at.1 found.1 in
        let here : IsMemberAt i h x at.0 m = record { stands = p.stands; there = at.1 } in
        subst (λ t. Passed i P (f m h) (g t x)) same (record { stands = is.takes h x at.0 m p.kept here; kept = is.keeps h x at.0 m p.kept here })

  each : (ss : List Session) (first : Step) (h : HostState) (x : Step) → ((s : Session) → Contains ss s → Has first s) → Stays first x → Passed i P h x
      → Passed i P (over (map (λ s. s.number) ss) (λ n. at_member n f) h) (for_each ss g x)
  each [] first h x has stays p = p
  each (s ∷ ss) first h x has stays p =
      each ss first (at_member s.number f h) (g s x) (λ t there. has t (contains_more s ss t there))
      (is.stays first x s (has s (contains_first s ss)) stays) (one h x s (stays.sessions s (has s (contains_first s ss))) p)

  numbers_are : (ms : List MemberState) → map (λ (s : Session). s.number) (map (λ (m : MemberState). m.who) ms) ≡ map (λ m. m.who.number) ms
  numbers_are [] = refl
  numbers_are (m ∷ ms) = ap (λ ns. m.who.number ∷ ns) (numbers_are ms)

  pub all : (h : HostState) (x : Step) → Passed i P h x → Passed i P (for_members f h) (for_sessions g x)
  all h x p =
      subst (λ ns. Passed i P (over ns (λ n. at_member n f) h) (for_sessions g x))
      (ap (map (λ (s : Session). s.number)) p.stands.keeps.present ∙ numbers_are h.members)
      (each (present_sessions x.setting (seen x)) x h x (λ s there. present_has x s there) (record { sessions = λ s has. has; input = refl }) p)
