-- The names of a resource's history: the session that one names, when it joined, and that it has joined at the fronts from there on.
use Rattle.sl_ballot_law.specs.History.{Owner as Holder}
use Rattle.sl_words.proofs.Lists.{find_inside}
use Rattle.sl_words.proofs.Options.{then_value}
use Rattle.sl_safety.specs.Resources.Histories.{is_over_in, joined_of, joined_step}
use Rattle.sl_safety.specs.Resources.SentCalls.{all_names, holder_of, holder_of_found, is_joined_there, same_holder, session_of_holder}
use Rattle.sl_run.specs.Runs.{Happening}
use Rattle.sl_run.specs.Safety.{Found, HasJoined, IsSession, SessionId, is_over, session_of_world, world_at}
use Rattle.sl_run.specs.Worlds.{Program, World}
use Rattle.sl_run.specs.declared.header.Header.{Header}
use Rattle.sl_safety.proofs.Sessions.NamesAreApart.{IsMember, member_name, member_of}
use Rattle.sl_safety.proofs.Sessions.OrderedFronts.{FrontAt, nothing_more}
use Rattle.sl_safety.proofs.Sessions.OrderedStood.{joined_past, joined_stood}
use Rattle.sl_words.proofs.CaseLaws.{one_value}
use Rattle.sl_words.proofs.WordLaws.{and_true, some_is_true}
use Rattle.sl_words.specs.Words.{some_is}
use Rattle.std.proofs.Common.{ap, arith, inl, inr, subst, sym, ◌∙◌}
use Rattle.std.proofs.lemmas.Bool.{eqb-true}
use Rattle.std.specs.Prelude.{List, Some, [], option_and_then, true, ℕ, ◌&&◌, ◌++◌, ◌==◌, ◌≡◌, ◌≤◌, ◌⊎◌}

-- ---- names

-- The session that a name names.
pub record IsNamed (w : World) (lockspace : List ℕ) (o : Holder) (i : SessionId) (f : Found) : Type 0 where
  pub at : session_of_holder w lockspace o ≡ Some i
  pub member : IsMember w lockspace i f
  pub name : holder_of_found f ≡ o

pub one_holder : (a b : Holder) → same_holder a b ≡ true → a ≡ b
one_holder a b is =
    let both = and_true (a.id == b.id) (a.generation == b.generation) is in
    ap (λ n. let x : Holder = record { id = n; generation = a.generation } in x) (eqb-true a.id b.id both.0)
    ∙ ap (λ n. let x : Holder = record { id = b.id; generation = n } in x) (eqb-true a.generation b.generation both.1)

pub named : (w : World) (lockspace : List ℕ) (o : Holder) (i : SessionId) → session_of_holder w lockspace o ≡ Some i → (f : Found) × IsNamed w lockspace o i f
named w lockspace o i at =
    let x = find_inside (λ (k : SessionId). is_joined_there w lockspace k && same_holder (holder_of w k) o) (all_names w) i at in
    let both = and_true (is_joined_there w lockspace i) (same_holder (holder_of w i) o) x.1 in
    let m = member_of w lockspace i both.0 in
    (m.0, record { at = at; member = m.1; name = sym (member_name w i m.0 m.1.its) ∙ one_holder (holder_of w i) o both.1 })

-- One that joined.
pub record JoinedAs (w : World) (lockspace : List ℕ) (o : Holder) (n : ℕ) : Type 0 where
  pub session : SessionId
  pub found : Found
  pub named : IsNamed w lockspace o session found
  pub step : joined_step found ≡ Some n

pub joined_as : (w : World) (lockspace : List ℕ) (o : Holder) (n : ℕ) → joined_of w lockspace o ≡ Some n → JoinedAs w lockspace o n
joined_as w lockspace o n is =
    let i = then_value (λ k. option_and_then joined_step (session_of_world w k)) (session_of_holder w lockspace o) n is in
    let f = then_value joined_step (session_of_world w i.0) n i.2 in
    let x = named w lockspace o i.0 i.1 in
    let same : f.0 ≡ x.0 = one_value f.0 x.0 (session_of_world w i.0) f.1 x.1.member.its in
    record { session = i.0; found = x.0; named = x.1; step = ap joined_step (sym same) ∙ f.2 }

-- ---- over

-- One that is over in a world.
pub record OverAs (w v : World) (lockspace : List ℕ) (o : Holder) : Type 0 where
  pub session : SessionId
  pub later : Found
  pub named : IsNamed w lockspace o session later
  pub found : Found
  pub its : IsSession v session found
  pub over : is_over session found ≡ true

pub over_as : (w v : World) (lockspace : List ℕ) (o : Holder) → some_is (is_over_in v) (session_of_holder w lockspace o) ≡ true → OverAs w v lockspace o
over_as w v lockspace o is =
    let i = some_is_true (is_over_in v) (session_of_holder w lockspace o) is in
    let f = some_is_true (is_over i.0) (session_of_world v i.0) i.2 in
    let x = named w lockspace o i.0 i.1 in
    record { session = i.0; later = x.0; named = x.1; found = f.0; its = f.1; over = f.2 }

pub is_over_as : (w v : World) (lockspace : List ℕ) (o : Holder) (i : SessionId) (f : Found) → session_of_holder w lockspace o ≡ Some i → IsSession v i f → is_over i f ≡ true
    → some_is (is_over_in v) (session_of_holder w lockspace o) ≡ true
is_over_as w v lockspace o i f at its over = ap (some_is (is_over_in v)) at ∙ ap (some_is (is_over i)) its ∙ over

-- ---- joined at the front of a step

nothing_after : (xs now rest : List Happening) → xs ≡ now ++ rest → rest ≡ [] → xs ≡ now
nothing_after xs now rest whole none = whole ∙ ap (λ ys. now ++ ys) none ∙ nothing_more now

-- From its step on it stands there, joined.
pub joined_at : (p : Program) (h : Header) (xs : List Happening) → (t : ℕ) (f : FrontAt p h xs t) (i : SessionId) (g : Found) → IsSession (world_at p h xs) i g → HasJoined g
    → (n : ℕ) → joined_step g ≡ Some n → n ≤ t → (x : Found) × IsSession (world_at p h f.now) i x × HasJoined x
joined_at p h xs t f i g its joined n step le = by f.ends where
  by : (f.rest ≡ []) ⊎ (t ≤ (world_at p h f.now).step) → (x : Found) × IsSession (world_at p h f.now) i x × HasJoined x
  by (inl none) = (g, subst (λ ys. IsSession (world_at p h ys) i g) (nothing_after xs f.now f.rest f.whole none) its, joined)
  by (inr there) =
      joined_stood p h f.now f.rest f.run i g (subst (λ ys. IsSession (world_at p h ys) i g) f.whole its) n step (omega (arith, le, there))

-- .. and not before.
pub joined_since : (p : Program) (h : Header) (xs : List Happening) → (t : ℕ) (f : FrontAt p h xs t) (i : SessionId) (x g : Found) → IsSession (world_at p h f.now) i x → HasJoined x
    → IsSession (world_at p h xs) i g → (n : ℕ) → joined_step g ≡ Some n → n ≤ t
joined_since p h xs t f i x g its joined also n step =
    let lt = joined_past p h f.now f.rest f.run i x g its joined (subst (λ ys. IsSession (world_at p h ys) i g) f.whole also) n step in
    let begins = f.begins in
    omega (arith, lt, begins)
