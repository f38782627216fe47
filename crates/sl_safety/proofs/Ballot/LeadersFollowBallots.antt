-- Each leader was written by a session whose own ballot of its instance had ended with itself.
use Rattle.sl_safety.proofs.Ballot.BallotsEnd.{AnsweredBy, EndingRead, ballot_ended}
use Rattle.sl_safety.proofs.Ballot.ReasonEvidence.{found_of_standing, sender_found}
use Rattle.sl_safety.proofs.Ballot.ReasonFronted.{fronted, name_at_front}
use Rattle.sl_safety.specs.Ballot.Endings.{HostsJoin, holder_as}
use Rattle.sl_safety.specs.Ballot.LeadersFollowBallots.{LeadersFollowBallots}
use Rattle.sl_ballot_law.specs.Ballots.{BallotEnded}
use Rattle.sl_ballot_law.specs.History.{History, Owner as Holder}
use Rattle.sl_run.specs.LawForms.{cut_at}
use Rattle.sl_run_law.proofs.Leases.EndLaws.{leaders_follow}
use Rattle.sl_run_law.specs.Leases.Ways.{Ended, LeaderRests, lease_among}
use Rattle.sl_trace.specs.Ballots.{owner_of, same_owner, value_of}
use Rattle.sl_trace.specs.Leases.{block_submitted, blocks_given, leader_of_record}
use Rattle.sl_words.proofs.Options.{some_there}
use Rattle.sl_safety.proofs.Resources.BlockOrigins.{IsAmong, answer_step, answered_before, line_aligned, reads_work, told_spot}
use Rattle.sl_safety.proofs.Resources.Calls.{IsWork}
use Rattle.sl_safety.proofs.Resources.StepsNameCalls.{IsSentTo, found_at, leader_works, worker_joined}
use Rattle.sl_safety.proofs.Resources.CallParts.{standing}
use Rattle.sl_safety.specs.Resources.Histories.{history_leader, no_leader}
use Rattle.sl_safety.specs.Resources.HistoryLaws.{NamesDiffer, history_of_line, spot_of_line}
use Rattle.sl_safety.specs.Resources.SentCalls.{Sent, holder_of, leader_of_course, sender_of, sent_at, writes_leader}
use Rattle.sl_run.specs.Runs.{Happening}
use Rattle.sl_run.specs.Safety.{Found, LawfulRun, setting_in, trace_of, world_at}
use Rattle.sl_run.specs.Worlds.{Program, World}
use Rattle.sl_run.specs.declared.header.Header.{Header}
use Rattle.sl_run.specs.declared.header.ResourceLine.{ResourceLine}
use Rattle.sl_sector.specs.declared.sector.Block.{Block}
use Rattle.sl_sector.specs.declared.sector.Leader.{Leader}
use Rattle.sl_sector.specs.declared.sector.Owner.{Owner}
use Rattle.sl_trace.specs.Sessions.{me}
use Rattle.sl_trace.specs.declared.session.Session.{Session}
use Rattle.sl_trace.specs.Traces.{Setting, Submitted, record_of, submitted}
use Rattle.sl_trace.specs.declared.effects.Call.{Call}
use Rattle.sl_trace.specs.declared.effects.Spot.{Spot}
use Rattle.sl_words.proofs.WordLaws.{and_true}
use Rattle.std.proofs.Common.{ap, append_assoc, subst, sym, ◌∙◌}
use Rattle.std.proofs.lemmas.Bool.{eqb-true}
use Rattle.std.specs.Option.{option_map_or}
use Rattle.std.specs.Prelude.{Contains, List, Option, Some, is_some, option_and_then, true, [], ℕ, ◌++◌, ◌==◌, ◌∷◌, ◌≡◌, ◌≤◌}
use Rattle.sl_safety.proofs.Resources.TraceReads.{among_split}
use Rattle.sl_safety.proofs.Ballot.ReadsIn.{CallIn, call_in}

-- ---- an end among the calls before

-- The read that ended a ballot, among the calls at the end of a session's trace.
record EndsAmong (f : Found) (older : List Submitted) (at : Spot) (p : ℕ × Owner) : Type 0 where
  own : Block
  blocks : List (Option Block)
  ending : EndingRead f at own blocks
  among : IsAmong (setting_in f) f.session at older ending.read
  what : (own.lver, value_of own) ≡ p

ends_among : (f : Found) (newer older : List Submitted) → submitted (trace_of f) ≡ newer ++ older → (at : Spot) (p : ℕ × Owner)
    → Ended (setting_in f).layout (lease_among (setting_in f) f.session at older) p → EndsAmong f older at p
ends_among f newer older is at p e =
    let st : Setting = setting_in f in
    let ses : Session = f.session in
    let c : CallIn st ses at older e.read e.before = call_in st ses at older e.newer e.before e.read e.is in
    record {
      own = e.own;
      blocks = e.blocks;
      ending = record {
        newer = newer ++ c.newer;
        read = e.read;
        older = c.older;
        is = is ∙ ap (λ ms. newer ++ ms) c.is ∙ sym (append_assoc newer c.newer (e.read ∷ c.older));
        mine = c.mine;
        lease = c.lease;
        on = c.on;
        reads = e.reads;
        block = ap (λ ms. block_submitted ms) c.rest ∙ e.block;
        given = ap (λ ms. blocks_given st.layout e.read ms) c.rest ∙ e.given;
        clear = e.clear;
      };
      among = among_split st ses at older e.newer e.read e.before e.is;
      what = e.what;
    }

-- ---- leaders

-- A leader that was sent to a resource's area.
record LeaderAt (p : Program) (h : Header) (xs : List Happening) (r : ResourceLine) (l : ℕ) : Type 0 where
  sent : Sent
  is : IsSentTo (world_at p h xs) r l sent
  leader : Leader
  wrote : leader_of_course sent.course ≡ Some leader
  shown : (history_of_line p h xs r).leader l ≡ history_leader leader

leader_at : (p : Program) (h : Header) (xs : List Happening) (r : ResourceLine) (l : ℕ) → (history_of_line p h xs r).leads l ≡ true → LeaderAt p h xs r l
leader_at p h xs r l leads =
    let w : World = world_at p h xs in
    let x = some_there (sent_at w (spot_of_line r) writes_leader l) leads in
    let f = found_at w r writes_leader l x.0 x.1 in
    let k = some_there (leader_of_course x.0.course) f.1 in
    record {
      sent = x.0;
      is = f.0;
      leader = k.0;
      wrote = k.1;
      shown = ap (λ o. option_map_or history_leader (option_and_then (λ (y : Sent). leader_of_course y.course) o) no_leader) x.1
          ∙ ap (λ o. option_map_or history_leader o no_leader) k.1;
    }

pub owner_as : (a b : Owner) → same_owner a b ≡ true → holder_as a ≡ holder_as b
owner_as a b h =
    let both = and_true (a.id == b.id) (a.generation == b.generation) h in
    ap (λ n. let o : Holder = record { id = n; generation = a.generation } in o) (eqb-true a.id b.id both.0)
    ∙ ap (λ n. let o : Holder = record { id = b.id; generation = n } in o) (eqb-true a.generation b.generation both.1)

won_by : (p : Program) (h : Header) (xs : List Happening) (r : ResourceLine) → LawfulRun p h xs → Contains h.resources r → NamesDiffer (world_at p h xs) r.lockspace
    → HostsJoin (world_at p h xs) r.lockspace → (l : ℕ) (k : LeaderAt p h xs r l)
    → BallotEnded (history_of_line p h xs r) (holder_as (owner_of k.leader)) k.leader.lver (holder_as (owner_of k.leader)) l
won_by p h xs r run there differ hosts l k =
    let w : World = world_at p h xs in
    let at : Spot = spot_of_line r in
    let x : Sent = k.sent in
    let H : History = history_of_line p h xs r in
    let s = standing p h xs run x k.is.sent in
    let st : Setting = s.daemon.setting in
    let f : Found = found_of_standing s in
    let work : IsWork w r x = leader_works p h xs run r there x k.is.sent k.is.on (ap (λ o. is_some o) k.wrote) in
    let spot = told_spot p h xs run at (line_aligned p h xs run r there) x s k.is.on in
    let rests : LeaderRests st s.daemon.trace s.session at s.told.older s.told.one k.leader =
    subst (λ a. LeaderRests st s.daemon.trace s.session a s.told.older s.told.one k.leader) spot
    (leaders_follow st s.daemon.trace s.lawful s.told.newer s.told.older s.told.one k.leader s.told.is
    (ap (λ (c : Call). option_and_then leader_of_record (record_of c.op)) s.told.pair.call ∙ k.wrote) s.session s.known) in
    let sub = rests.submission in
    let self : Owner = me (cut_at sub.place sub.entry ∷ sub.past) s.session in
    let e = ends_among f (s.told.newer ++ s.told.one ∷ []) s.told.older (s.told.is ∙ sym (append_assoc s.told.newer (s.told.one ∷ []) s.told.older)) at (k.leader.lver, self) rests.won in
    let by = answered_before p h xs run x s work.work work.area e.ending.read (subst (λ a. IsAmong st s.session a s.told.older e.ending.read) (sym spot) e.among)
    (reads_work st.layout e.ending.read (lease_among st s.session at e.ending.older) e.blocks e.ending.given) in
    let early : AnsweredBy f e.ending.read l =
    λ a told t stamped. subst (λ n. t.step ≤ n) k.is.step_is (answer_step p h xs run x s e.ending.read by a told t stamped) in
    let done = ballot_ended p h xs r run there differ hosts (sender_of x) f (sender_found w x s) (worker_joined p h xs r x work) e.own e.blocks e.ending l early in
    let name : holder_as self ≡ holder_of w (sender_of x) = name_at_front w x s sub (fronted w x s sub work.area) in
    let owner : holder_as (owner_of k.leader) ≡ holder_as self = owner_as (owner_of k.leader) self rests.owner in
    let ended : BallotEnded H (holder_of w (sender_of x)) k.leader.lver (holder_as self) l =
    subst (λ (q : ℕ × Owner). BallotEnded H (holder_of w (sender_of x)) q.0 (holder_as q.1) l) e.what done in
    subst (λ (o : Holder). BallotEnded H o k.leader.lver o l) (sym owner) (subst (λ (o : Holder). BallotEnded H o k.leader.lver (holder_as self) l) (sym name) ended)

pub leaders_follow_ballots : LeadersFollowBallots
leaders_follow_ballots p h xs r run there differ hosts l leads =
    let k = leader_at p h xs r l leads in
    subst (λ y. BallotEnded (history_of_line p h xs r) y.owner y.lver y.owner l) (sym k.shown) (won_by p h xs r run there differ hosts l k)
