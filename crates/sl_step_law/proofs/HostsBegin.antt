-- A new host of each setting that a daemon may be made of is sound.
use Rattle.sl_area.specs.AreaSizes.{IsGeometry, Layout}
use Rattle.sl_host_law.proofs.SharedFacts.PlainLists.{at_some, each_of, got_below}
use Rattle.sl_host_law.proofs.SharedFacts.PlainOrders.{ordered_inside}
use Rattle.sl_host_law.proofs.Steps.NewHostsAreSound.{new_hosts_are_sound}
use Rattle.sl_host_law.specs.Steps.NewHosts.{IsFitSetting}
use Rattle.sl_host_state.proofs.NewHost.{new_host_stands}
use Rattle.sl_host_state.specs.NewHost.{IsOfProgram, given_sessions, sizes_in}
use Rattle.sl_run.specs.Lawful.{IsGiven, IsSetting}
use Rattle.sl_words.proofs.Lists.{got_index, got_inside, in_map}
use Rattle.sl_trace.specs.Sessions.{given_session}
use Rattle.sl_trace.specs.declared.session.Session.{Session}
use Rattle.sl_step_law.specs.StepsAreTaken.{HostsBegin}
use Rattle.sl_trace.specs.Traces.{Setting}
use Rattle.sl_trace.specs.declared.command.Command.TheVariants.{AddLockspace}
use Rattle.sl_trace.specs.declared.command.LockspaceArg.{LockspaceArg}
use Rattle.sl_trace.specs.declared.input.Given.{Given}
use Rattle.sl_words.proofs.CaseLaws.{none_some, some_value, true_is_false}
use Rattle.sl_words.proofs.WordLaws.{and_true}
use Rattle.sl_words.specs.Orders.{is_text_before}
use Rattle.std.proofs.Common.{ap, ap₂, arith, inl, inr, suc, subst, sym, zero, ◌∙◌}
use Rattle.std.proofs.lemmas.Bool.{cases_lt, leb-true}
use Rattle.std.proofs.lemmas.Slice.Eq.{bytes_eq-Decides}
use Rattle.std.specs.List.{enumerate_from}
use Rattle.std.specs.Prelude.{Contains, List, Ok, Some, bytes_eq, map, nat_le, slice_get, [], ℕ, ◌+◌, ◌<◌, ◌∷◌, ◌≡◌, ◌≤◌}

-- An element of a numbered list, with its place.
at_enumerated : {A : Type 0} (n k : ℕ) (xs : List A) (p : ℕ × A) → slice_get (enumerate_from n xs) k ≡ Some p → (p.0 ≡ n + k) × (slice_get xs k ≡ Some p.1)
at_enumerated n k [] p is = absurd (none_some p is)
at_enumerated n zero (x ∷ xs) p is = let same = some_value (n, x) p is in (ap (λ q. q.0) (sym same) ∙ none n, ap (λ q. Some q.1) same) where
  none : (n : ℕ) → n ≡ n + 0
  none n = omega arith
at_enumerated n (suc k) (x ∷ xs) p is = let r = at_enumerated (n + 1) k xs p is in (r.0 ∙ along n k, r.1) where
  along : (n k : ℕ) → n + 1 + k ≡ n + suc k
  along n k = omega arith

module _ (st : Setting) (setting : IsSetting st) where
  -- A session that is given, with its place.
  record WasGiven (s : Session) : Type 0 where
    given : Given
    place : ℕ
    there : slice_get st.given place ≡ Some given
    is : given_session (place, given) ≡ s

  was_given : (s : Session) → Contains (given_sessions st) s → WasGiven s
  was_given s there =
      let p = in_map given_session (enumerate_from 0 st.given) s (ordered_inside (λ (a b : Session). is_text_before a.lockspace b.lockspace) (map given_session (enumerate_from 0 st.given)) s there) in
      let k = at_some (enumerate_from 0 st.given) p.0 p.1 in
      let r = at_enumerated 0 k.0 st.given p.0 k.1 in
      record { given = p.0.1; place = p.0.0; there = subst (λ n. slice_get st.given n ≡ Some p.0.1) (sym (r.0 ∙ plain k.0)) r.1; is = p.2 } where
        plain : (n : ℕ) → 0 + n ≡ n
        plain n = omega arith

  apart : (a b : Given) (i j : ℕ) → slice_get st.given i ≡ Some a → slice_get st.given j ≡ Some b → i < j → a.lockspace ≡ b.lockspace → ⊥
  apart a b i j at_i at_j less same =
      let differs = setting.different i j a less (got_below st.given j b at_j) in
      true_is_false
      (sym ((bytes_eq-Decides a.lockspace b.lockspace).1 same)
      ∙ sym (ap₂ (λ (p q : Given). bytes_eq p.lockspace q.lockspace) (got_index st.given i a a at_i) (got_index st.given j b a at_j)) ∙ differs)

  names : (s t : Session) → Contains (given_sessions st) s → Contains (given_sessions st) t → s.lockspace ≡ t.lockspace → s ≡ t
  names s t there also same = by (was_given s there) (was_given t also) where
    by : WasGiven s → WasGiven t → s ≡ t
    by a b = elim (cases_lt a.place b.place) [
      | inl less ↦ absurd (apart a.given b.given a.place b.place a.there b.there less named)
      | inr low ↦ elim (cases_lt b.place a.place) [
        | inl less ↦ absurd (apart b.given a.given b.place a.place b.there a.there less (sym named))
        | inr high ↦ (let places : a.place ≡ b.place = omega (arith, low, high) in
            let givens : a.given ≡ b.given = some_value a.given b.given (sym a.there ∙ ap (slice_get st.given) places ∙ b.there) in
            sym a.is ∙ ap₂ (λ n g. given_session (n, g)) places givens ∙ b.is)
      ]
    ] where
      named : a.given.lockspace ≡ b.given.lockspace
      named = ap (λ (z : Session). z.lockspace) a.is ∙ same ∙ ap (λ (z : Session). z.lockspace) (sym b.is)

  ids : (s : Session) → Contains (given_sessions st) s → (1 ≤ s.id) × (s.id ≤ st.layout.hosts)
  ids s there =
      let g = was_given s there in
      let is = each_of (IsGiven st) st.given g.given setting.each (got_inside st.given g.place g.given g.there) in
      subst (λ (z : Session). (1 ≤ z.id) × (z.id ≤ st.layout.hosts)) g.is is.id

  joins : (text : List ℕ) (a : LockspaceArg) → st.read text ≡ Ok (AddLockspace a) → (1 ≤ a.id) × (a.id ≤ st.layout.hosts)
  joins text a says =
      let r = and_true (nat_le 1 a.id) (nat_le a.id st.layout.hosts) (setting.reads text (AddLockspace a) says).host in
      (leb-true 1 a.id r.0, leb-true a.id st.layout.hosts r.1)

  fit : IsOfProgram st.layout → IsFitSetting st
  fit program =
      record {
        program = program;
        geometry = subst (λ (l : Layout). IsGeometry (sizes_in l)) (sym setting.layout.2) setting.layout.1;
        names = names;
        ids = ids;
        joins = joins;
      }

pub hosts_begin : HostsBegin
hosts_begin = record { stands = λ st setting program. new_host_stands st program; sound = λ st setting program. new_hosts_are_sound st (fit st setting program) }
