-- Where a session of a resource's history joins, those of its id that joined before it are over.
use Rattle.sl_ballot_law.specs.History.{Owner as Holder}
use Rattle.sl_run_law.proofs.Front.RunsFromFronts.{fronts_are_lawful}
use Rattle.sl_id_safety.proofs.IdInterface.{lockspaces_are_areas}
use Rattle.sl_id_safety.proofs.IdSafety.{joiners_find_over}
use Rattle.sl_id_safety.proofs.OverIsQuiet.{goes_on}
use Rattle.sl_safety.specs.Resources.Histories.{is_over_in}
use Rattle.sl_safety.specs.Resources.SentCalls.{session_of_holder}
use Rattle.sl_run.specs.Runs.{Happening}
use Rattle.sl_run.specs.Safety.{Found, HasJoined, IsSession, LawfulRun, SameId, SessionId, is_over, world_at}
use Rattle.sl_run.specs.Worlds.{Program, World}
use Rattle.sl_run.specs.declared.header.Header.{Header}
use Rattle.sl_safety.proofs.Sessions.OrderedFronts.{front_at, fronts_nest}
use Rattle.sl_safety.proofs.Sessions.OrderedNames.{is_over_as, joined_as, joined_at, joined_since}
use Rattle.sl_safety.specs.Sessions.SessionLaws.{HistoriesEndEarlier}
use Rattle.sl_trace.specs.declared.session.Session.{Session}
use Rattle.sl_trace.specs.Traces.{same_place}
use Rattle.sl_words.specs.Words.{some_is}
use Rattle.std.proofs.Common.{ap, arith, subst, sym, ◌∙◌}
use Rattle.std.specs.Prelude.{IsTrue, List, true, ℕ, ◌++◌, ◌<◌, ◌≡◌, ◌≤◌}

-- Sessions that are one are of one id with the same others.
same_id_as : (f later g : Found) → later.session ≡ f.session → SameId later g → SameId f g
same_id_as f later g same id = subst (λ (s : Session). IsTrue (same_place s.path s.offset g.session.path g.session.offset) × (s.id ≡ g.session.id)) same id

-- A session that had joined at a front, where another of its id has joined since.
over_where : (p : Program) (h : Header) (now mid : List Happening) → LawfulRun p h (now ++ mid) → (i k : SessionId) (f later g : Found) → IsSession (world_at p h now) i f → HasJoined f
    → IsSession (world_at p h (now ++ mid)) i later → HasJoined later → IsSession (world_at p h (now ++ mid)) k g → HasJoined g
    → ((before : Found) → IsSession (world_at p h now) k before → HasJoined before → ⊥) → later.session.lockspace ≡ g.session.lockspace → later.session.id ≡ g.session.id
    → is_over i later ≡ true
over_where p h now mid run i k f later g its joined still stays also joins never lockspace id =
    joiners_find_over p h now mid run i k f later g its joined still also joins never
    (same_id_as f later g (goes_on p h now mid run i f later its still).session (lockspaces_are_areas p h (now ++ mid) run i k later g still also stays joins lockspace id))

below : (n m : ℕ) → n < m → m ≤ n → ⊥
below n m p q = omega (arith, p, q)

pub histories_end_earlier : HistoriesEndEarlier
histories_end_earlier p h xs r run there s u n m one two id lt =
    let w : World = world_at p h xs in
    let a = joined_as w r.lockspace s n one in
    let b = joined_as w r.lockspace u m two in
    let before = front_at p h xs run n in
    let after = front_at p h xs run m in
    let mid = fronts_nest p h xs n m before after lt in
    let goes : LawfulRun p h (before.now ++ mid.0) = subst (λ ys. LawfulRun p h ys) mid.1 (fronts_are_lawful p h after.now after.rest after.run) in
    let had = joined_at p h xs n before a.session a.found a.named.member.its a.named.member.joined n a.step (omega arith) in
    let still = joined_at p h xs m after a.session a.found a.named.member.its a.named.member.joined n a.step (omega (arith, lt)) in
    let joins = joined_at p h xs m after b.session b.found b.named.member.its b.named.member.joined m b.step (omega arith) in
    let one_on = goes_on p h after.now after.rest after.run a.session still.0 a.found still.1 (subst (λ ys. IsSession (world_at p h ys) a.session a.found) after.whole a.named.member.its) in
    let two_on = goes_on p h after.now after.rest after.run b.session joins.0 b.found joins.1 (subst (λ ys. IsSession (world_at p h ys) b.session b.found) after.whole b.named.member.its) in
    let space : still.0.session.lockspace ≡ joins.0.session.lockspace =
    ap (λ (x : Session). x.lockspace) (sym one_on.session) ∙ a.named.member.lockspace_is ∙ sym b.named.member.lockspace_is ∙ ap (λ (x : Session). x.lockspace) two_on.session in
    let ids : still.0.session.id ≡ joins.0.session.id =
    ap (λ (x : Session). x.id) (sym one_on.session) ∙ ap (λ (o : Holder). o.id) a.named.name ∙ id ∙ ap (λ (o : Holder). o.id) (sym b.named.name) ∙ ap (λ (x : Session). x.id) two_on.session in
    let over : is_over a.session still.0 ≡ true =
    over_where p h before.now mid.0 goes a.session b.session had.0 still.0 joins.0 had.1 had.2 (subst (λ ys. IsSession (world_at p h ys) a.session still.0) mid.1 still.1) still.2
    (subst (λ ys. IsSession (world_at p h ys) b.session joins.0) mid.1 joins.1) joins.2
    (λ x its joined. below n m lt (joined_since p h xs n before b.session x b.found its joined b.named.member.its m b.step)) space ids in
    ap (λ v. some_is (is_over_in v) (session_of_holder w r.lockspace s)) after.is
    ∙ is_over_as w (world_at p h after.now) r.lockspace s a.session still.0 a.named.at still.1 over
