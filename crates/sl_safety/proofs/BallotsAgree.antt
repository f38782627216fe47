-- All ballots of a resource's instance that end, end with one session, in each world of a lawful run.
--
-- Who ended a ballot on an area has written a block there, so it has joined for the resource there; and what ended in its trace has ended in
-- the resource's history, where the ballots of an instance agree.
use Rattle.sl_area.specs.AreaLayout.{is_base}
use Rattle.sl_safety.proofs.Ballot.EndedAll.{ended_ballots_end}
use Rattle.sl_safety.proofs.Ballot.EndedJoined.{enders_are_joined}
use Rattle.sl_safety.specs.Ballot.Endings.{holder_as}
use Rattle.sl_ballot_law.proofs.AgreementLaws.{agreement, one_winner}
use Rattle.sl_ballot_law.specs.Ballots.{BallotEnded}
use Rattle.sl_ballot_law.specs.History.{Owner as Holder}
use Rattle.sl_safety.proofs.Grant.ExclusivesAreKept.{came_at}
use Rattle.sl_safety.specs.Grant.HistoryGrants.{ResourceAt}
use Rattle.sl_trace.specs.Leases.{ended_ballots, lease_calls}
use Rattle.sl_run_law.proofs.Place.Areas.{one_resource}
use Rattle.sl_words.proofs.Lists.{contains_none}
use Rattle.sl_safety.proofs.Resources.Calls.{holder_is}
use Rattle.sl_safety.specs.Resources.HistoryLaws.{history_of_line, spot_of_line}
use Rattle.sl_safety.specs.Resources.SentCalls.{holder_of, is_joined_there}
use Rattle.sl_run.specs.Runs.{Happening}
use Rattle.sl_run.specs.Safety.{Agreement, Found, IsSession, LawfulRun, OneWinner, SessionId, ballots_of, setting_in, trace_of, world_at}
use Rattle.sl_run.specs.Worlds.{Program, World}
use Rattle.sl_run.specs.declared.header.Header.{Header}
use Rattle.sl_run.specs.declared.header.ResourceLine.{ResourceLine}
use Rattle.sl_safety.proofs.HistoriesAreLawful.{are_lawful}
use Rattle.sl_sector.specs.declared.sector.Owner.{Owner}
use Rattle.sl_safety.proofs.Sessions.NamesAreApart.{joined_are_hosts, names_are_apart}
use Rattle.sl_trace.specs.Sessions.{me}
use Rattle.sl_trace.specs.Traces.{Trace}
use Rattle.sl_trace.specs.declared.effects.Spot.{Spot}
use Rattle.std.proofs.Common.{ap, refl, subst, sym, ◌∙◌}
use Rattle.std.specs.Prelude.{Contains, IsTrue, List, [], ℕ, ◌∷◌, ◌≡◌}

-- ---- it ended in the history

-- A ballot of an area that has ended in the history of the resource there.
record EndsThere (p : Program) (h : Header) (xs : List Happening) (i : SessionId) (at : Spot) (n : ℕ) (o : Owner) : Type 0 where
  place : ResourceAt p h xs i at
  step : ℕ
  ended : BallotEnded (history_of_line p h xs place.resource) (holder_of (world_at p h xs) i) n (holder_as o) step

ends_by : (p : Program) (h : Header) (xs : List Happening) → LawfulRun p h xs → (i : SessionId) (f : Found) → IsSession (world_at p h xs) i f → (at : Spot)
    → ResourceAt p h xs i at → (n : ℕ) (o : Owner) (es : Trace) → trace_of f ≡ es → Contains (ended_ballots (setting_in f).layout (lease_calls (setting_in f) es f.session at)) (n, o)
    → EndsThere p h xs i at n o
ends_by p h xs run i f its at a n o [] whole there = absurd (contains_none (n, o) there)
ends_by p h xs run i f its at a n o (e ∷ past) whole there =
    let r : ResourceLine = a.resource in
    let c = came_at p h xs run i f its [] e past whole in
    record {
      place = a;
      step = c.step;
      ended = ended_ballots_end p h xs r run a.there (names_are_apart p h xs r run a.there) (joined_are_hosts p h xs r run a.there) i f its a.joined e past c.step c.there n o
          (subst (λ (s : Spot). Contains (ended_ballots (setting_in f).layout (lease_calls (setting_in f) (e ∷ past) f.session s)) (n, o)) a.spot there);
    }

ends_there : (p : Program) (h : Header) (xs : List Happening) → LawfulRun p h xs → (i : SessionId) (f : Found) → IsSession (world_at p h xs) i f → (at : Spot)
    → IsTrue (is_base (world_at p h xs).layout at.base) → (n : ℕ) (o : Owner) → Contains (ballots_of f at) (n, o) → EndsThere p h xs i at n o
ends_there p h xs run i f its at base n o there =
    let a = enders_are_joined p h xs run i f its [] (trace_of f) refl at base (n, o) there in
    ends_by p h xs run i f its at (record { resource = a.0; there = a.1; spot = a.2; joined = a.3 }) n o (trace_of f) refl there

-- ---- of one resource

same_resource : (p : Program) (h : Header) (xs : List Happening) → LawfulRun p h xs → (i k : SessionId) (at : Spot) (a : ResourceAt p h xs i at) (b : ResourceAt p h xs k at)
    → b.resource ≡ a.resource
same_resource p h xs run i k at a b =
    let same : spot_of_line b.resource ≡ spot_of_line a.resource = sym b.spot ∙ a.spot in
    one_resource h b.resource a.resource run.header b.there a.there (ap (λ (s : Spot). s.path) same) (ap (λ (s : Spot). s.base) same)

one_owner : (u v : Owner) → holder_as u ≡ holder_as v → u ≡ v
one_owner u v same = ap (λ (o : Holder). let x : Owner = record { id = o.id; generation = o.generation } in x) same

pub agreement_holds : (p : Program) (h : Header) (xs : List Happening) → LawfulRun p h xs → Agreement (world_at p h xs)
agreement_holds p h xs run i k f g at n u v base its also one two =
    let w : World = world_at p h xs in
    let a : EndsThere p h xs i at n u = ends_there p h xs run i f its at base n u one in
    let b : EndsThere p h xs k at n v = ends_there p h xs run k g also at base n v two in
    let r : ResourceLine = a.place.resource in
    let other : BallotEnded (history_of_line p h xs r) (holder_of w k) n (holder_as v) b.step =
    subst (λ (l : ResourceLine). BallotEnded (history_of_line p h xs l) (holder_of w k) n (holder_as v) b.step) (same_resource p h xs run i k at a.place b.place) b.ended in
    one_owner u v
    (agreement (history_of_line p h xs r) (are_lawful p h xs r run a.place.there) n (holder_of w i) (holder_of w k) (holder_as u) (holder_as v) a.step b.step a.ended other)

pub one_winner_holds : (p : Program) (h : Header) (xs : List Happening) → LawfulRun p h xs → OneWinner (world_at p h xs)
one_winner_holds p h xs run i k f g at n base its also one two =
    let w : World = world_at p h xs in
    let a = ends_there p h xs run i f its at base n (me (trace_of f) f.session) one in
    let b = ends_there p h xs run k g also at base n (me (trace_of g) g.session) two in
    let r : ResourceLine = a.place.resource in
    let same = same_resource p h xs run i k at a.place b.place in
    let mine : BallotEnded (history_of_line p h xs r) (holder_of w i) n (holder_of w i) a.step =
    subst (λ (o : Holder). BallotEnded (history_of_line p h xs r) (holder_of w i) n o a.step) (sym (holder_is w i f its)) a.ended in
    let other : BallotEnded (history_of_line p h xs r) (holder_of w k) n (holder_of w k) b.step =
    subst (λ (o : Holder). BallotEnded (history_of_line p h xs r) (holder_of w k) n o b.step) (sym (holder_is w k g also))
    (subst (λ (l : ResourceLine). BallotEnded (history_of_line p h xs l) (holder_of w k) n (holder_as (me (trace_of g) g.session)) b.step) same b.ended) in
    names_are_apart p h xs r run a.place.there i k a.place.joined (subst (λ (l : ResourceLine). IsTrue (is_joined_there w l.lockspace k)) same b.place.joined)
    (one_winner (history_of_line p h xs r) (are_lawful p h xs r run a.place.there) n (holder_of w i) (holder_of w k) a.step b.step mine other)
