-- The sessions of a resource's history are in order: only joined ones act, one of an id joins at a step, and over is final, silent and
-- settled.
use Rattle.sl_ballot_law.specs.History.{Owner as Holder}
use Rattle.sl_run_law.proofs.Course.MachinesMirror.{machines_mirror}
use Rattle.sl_run_law.proofs.Front.RunsFromFronts.{fronts_are_lawful}
use Rattle.sl_id_safety.proofs.IdSafety.{over_stays}
use Rattle.sl_id_safety.proofs.OverAreSettled.{over_are_settled}
use Rattle.sl_id_safety.proofs.State.LaterFrames.{found_later}
use Rattle.sl_safety.proofs.Resources.Calls.{IsWork, found_of, owner_found}
use Rattle.sl_safety.proofs.Resources.StepsNameCalls.{block_works, found_at, found_read}
use Rattle.sl_safety.specs.Resources.Histories.{is_over_in, joined_of, world_by}
use Rattle.sl_safety.specs.Resources.HistoryLaws.{history_of_line, spot_of_line}
use Rattle.sl_safety.specs.Resources.SentCalls.{Sent, holder_of, holder_of_found, nobody, read_at, sender_of, sent_at, session_of_holder, step_of, writes_block}
use Rattle.sl_run.specs.Runs.{Happening}
use Rattle.sl_run.specs.Safety.{Found, HasJoined, IsSession, LawfulRun, SessionId, is_over, session_of_world, world_at}
use Rattle.sl_run.specs.Worlds.{Program, Stamp, World, world_with}
use Rattle.sl_run.specs.declared.header.Header.{Header}
use Rattle.sl_run.specs.declared.header.ResourceLine.{ResourceLine}
use Rattle.sl_safety.proofs.Sessions.OrderedFronts.{FrontAt, front_at, fronts_nest}
use Rattle.sl_safety.proofs.Sessions.OrderedNames.{IsNamed, is_over_as, joined_as, over_as}
use Rattle.sl_safety.proofs.Sessions.OrderedOnce.{joined_once}
use Rattle.sl_safety.proofs.Sessions.OrderedOver.{over_had_joined}
use Rattle.sl_safety.proofs.Sessions.OrderedSilent.{over_wrote_before}
use Rattle.sl_safety.proofs.Sessions.OrderedWork.{own_write, worker_joined_before, worker_named}
use Rattle.sl_safety.specs.Sessions.SessionLaws.{HistoriesAreInOrder}
use Rattle.sl_words.proofs.CaseLaws.{none_some, one_value, some_value, true_is_false}
use Rattle.sl_words.specs.Words.{some_is}
use Rattle.std.proofs.Common.{ap, arith, inl, inr, refl, subst, sym, ◌∙◌}
use Rattle.std.proofs.lemmas.Bool.{cases_lt}
use Rattle.std.specs.Option.{option_map_or}
use Rattle.std.specs.Prelude.{Bool, Contains, List, None, Option, Some, false, is_some, option_and_then, option_map, true, ℕ, ◌++◌, ◌+◌, ◌<◌, ◌≡◌, ◌≤◌, ◌⊎◌}
use Rattle.sl_safety.proofs.Resources.ReadBeginnings.{begins}

-- ---- who acts has joined

some_sent : (o : Option Sent) → is_some o ≡ true → (x : Sent) × (o ≡ Some x)
some_sent None is = absurd (true_is_false (sym is))
some_sent (Some x) is = (x, refl)

-- The write of a step.
record WroteAt (w : World) (r : ResourceLine) (e : ℕ) : Type 0 where
  write : Sent
  at : sent_at w (spot_of_line r) writes_block e ≡ Some write
  work : IsWork w r write
  block : writes_block write.course ≡ true
  step : step_of write ≡ e

wrote_at : (p : Program) (h : Header) (xs : List Happening) → LawfulRun p h xs → (r : ResourceLine) → Contains h.resources r → (e : ℕ)
    → is_some (sent_at (world_at p h xs) (spot_of_line r) writes_block e) ≡ true → WroteAt (world_at p h xs) r e
wrote_at p h xs run r there e is =
    let w : World = world_at p h xs in
    let x = some_sent (sent_at w (spot_of_line r) writes_block e) is in
    let f = found_at w r writes_block e x.0 x.1 in
    record { write = x.0; at = x.1; work = block_works p h xs run r there x.0 f.0.sent f.0.on f.1; block = f.1; step = f.0.step_is }

-- Its writer.
writer_is : (w : World) (r : ResourceLine) (e : ℕ) (k : WroteAt w r e)
    → option_map_or (λ (x : Sent). holder_of w (sender_of x)) (sent_at w (spot_of_line r) writes_block e) nobody ≡ holder_of w (sender_of k.write)
writer_is w r e k = ap (λ o. option_map_or (λ (x : Sent). holder_of w (sender_of x)) o nobody) k.at

abbrev HasJoinedBy : World → List ℕ → Holder → ℕ → Type 0
HasJoinedBy w lockspace o e = (j : ℕ) × (joined_of w lockspace o ≡ Some j) × (j ≤ e)

writers : (p : Program) (h : Header) (xs : List Happening) → LawfulRun p h xs → (r : ResourceLine) → Contains h.resources r → (e : ℕ) → (history_of_line p h xs r).writes e ≡ true
    → HasJoinedBy (world_at p h xs) r.lockspace ((history_of_line p h xs r).writer e) e
writers p h xs run r there e is =
    let w : World = world_at p h xs in
    let k = wrote_at p h xs run r there e is in
    subst (λ o. HasJoinedBy w r.lockspace o e) (sym (writer_is w r e k))
    (subst (λ n. HasJoinedBy w r.lockspace (holder_of w (sender_of k.write)) n) k.step (worker_joined_before p h xs run r there k.write k.work))

readers : (p : Program) (h : Header) (xs : List Happening) → LawfulRun p h xs → (r : ResourceLine) → Contains h.resources r → (e : ℕ) → (history_of_line p h xs r).reads e ≡ true
    → HasJoinedBy (world_at p h xs) r.lockspace ((history_of_line p h xs r).reader e) e
readers p h xs run r there e is =
    let w : World = world_at p h xs in
    let x = some_sent (read_at w (spot_of_line r) r.lockspace e) is in
    let f = found_read w r e x.0 x.1 in
    let b = begins p h xs run r there x.0 (record { has = f.0.sent; on = f.0.on; counted = f.1 }) in
    subst (λ o. HasJoinedBy w r.lockspace o e) (sym (ap (λ o. option_map_or (λ (y : Sent). holder_of w (sender_of y)) o nobody) x.1))
    (subst (λ n. HasJoinedBy w r.lockspace (holder_of w (sender_of x.0)) n) (sym b.began ∙ f.0.began)
    (subst (λ i. HasJoinedBy w r.lockspace (holder_of w i) (step_of b.first)) b.sender (worker_joined_before p h xs run r there b.first b.work)))

-- ---- one joins at a step

once : (p : Program) (h : Header) (xs : List Happening) → LawfulRun p h xs → (r : ResourceLine) → (s u : Holder) (j : ℕ) → joined_of (world_at p h xs) r.lockspace s ≡ Some j
    → joined_of (world_at p h xs) r.lockspace u ≡ Some j → s.id ≡ u.id → s ≡ u
once p h xs run r s u j one two id =
    let w : World = world_at p h xs in
    let a = joined_as w r.lockspace s j one in
    let b = joined_as w r.lockspace u j two in
    let same = joined_once p h xs run a.session b.session a.found b.found a.named.member.its b.named.member.its
    (a.named.member.lockspace_is ∙ sym b.named.member.lockspace_is) (ap (λ (o : Holder). o.id) a.named.name ∙ id ∙ ap (λ (o : Holder). o.id) (sym b.named.name)) j a.step b.step in
    let found : a.found ≡ b.found =
    one_value a.found b.found (session_of_world w b.session) (subst (λ k. IsSession w k a.found) same a.named.member.its) b.named.member.its in
    sym a.named.name ∙ ap holder_of_found found ∙ b.named.name

-- ---- over

-- A session of this name is over at a front.
pub record OverAt (p : Program) (h : Header) (xs : List Happening) (lockspace : List ℕ) (o : Holder) (now rest : List Happening) : Type 0 where
  pub session : SessionId
  pub later : Found
  pub named : IsNamed (world_at p h xs) lockspace o session later
  pub also : IsSession (world_at p h (now ++ rest)) session later
  pub found : Found
  pub its : IsSession (world_at p h now) session found
  pub joined : HasJoined found
  pub over : is_over session found ≡ true

pub over_at : (p : Program) (h : Header) (xs : List Happening) → (lockspace : List ℕ) (o : Holder) (t : ℕ) (f : FrontAt p h xs t)
    → some_is (is_over_in (world_by (world_with p h) xs t)) (session_of_holder (world_at p h xs) lockspace o) ≡ true → OverAt p h xs lockspace o f.now f.rest
over_at p h xs lockspace o t f is =
    let k = over_as (world_at p h xs) (world_at p h f.now) lockspace o
    (ap (λ v. some_is (is_over_in v) (session_of_holder (world_at p h xs) lockspace o)) (sym f.is) ∙ is) in
    let also : IsSession (world_at p h (f.now ++ f.rest)) k.session k.later = subst (λ ys. IsSession (world_at p h ys) k.session k.later) f.whole k.named.member.its in
    record {
      session = k.session;
      later = k.later;
      named = k.named;
      also = also;
      found = k.found;
      its = k.its;
      joined = over_had_joined p h f.now f.rest f.run k.session k.found k.later k.its also k.named.member.joined k.over;
      over = k.over;
    }

same_steps : (t u : ℕ) → t ≤ u → u ≤ t → t ≡ u
same_steps t u p q = omega (arith, p, q)

final : (p : Program) (h : Header) (xs : List Happening) → LawfulRun p h xs → (r : ResourceLine) → (s : Holder) (t u : ℕ) → (history_of_line p h xs r).over s t ≡ true → t ≤ u
    → (history_of_line p h xs r).over s u ≡ true
final p h xs run r s t u is le = by (front_at p h xs run t) (front_at p h xs run u) (cases_lt t u) where
  by : FrontAt p h xs t → FrontAt p h xs u → (t < u) ⊎ (u ≤ t) → (history_of_line p h xs r).over s u ≡ true
  by f g (inr ge) = subst (λ n. (history_of_line p h xs r).over s n ≡ true) (same_steps t u le ge) is
  by f g (inl lt) =
      let k = over_at p h xs r.lockspace s t f is in
      let mid = fronts_nest p h xs t u f g lt in
      let goes : LawfulRun p h (f.now ++ mid.0) = subst (λ ys. LawfulRun p h ys) mid.1 (fronts_are_lawful p h g.now g.rest g.run) in
      let l = found_later machines_mirror p h f.now mid.0 goes k.session k.found k.its in
      let over = over_stays p h f.now mid.0 goes k.session k.found l.found k.its l.at k.joined k.over in
      ap (λ v. some_is (is_over_in v) (session_of_holder (world_at p h xs) r.lockspace s)) g.is
      ∙ is_over_as (world_at p h xs) (world_at p h g.now) r.lockspace s k.session l.found k.named.at (subst (λ ys. IsSession (world_at p h ys) k.session l.found) (sym mid.1) l.at) over

-- The session that is over is the writer.
writer_over : (p : Program) (h : Header) (xs : List Happening) → LawfulRun p h xs → (r : ResourceLine) → Contains h.resources r → (s : Holder) (e : ℕ) (k : WroteAt (world_at p h xs) r e)
    → (history_of_line p h xs r).writer e ≡ s → (i : SessionId) → session_of_holder (world_at p h xs) r.lockspace s ≡ Some i → i ≡ sender_of k.write
writer_over p h xs run r there s e k is i at =
    let w : World = world_at p h xs in
    one_value i (sender_of k.write) (session_of_holder w r.lockspace s) at
    (ap (session_of_holder w r.lockspace) (sym (sym (writer_is w r e k) ∙ is)) ∙ worker_named p h xs run r there k.write k.work)

silent : (p : Program) (h : Header) (xs : List Happening) → LawfulRun p h xs → (r : ResourceLine) → Contains h.resources r → (s : Holder) (t e : ℕ)
    → (history_of_line p h xs r).over s t ≡ true → (history_of_line p h xs r).writes e ≡ true → (history_of_line p h xs r).writer e ≡ s → e < t
silent p h xs run r there s t e is writes writer =
    let w : World = world_at p h xs in
    let f = front_at p h xs run t in
    let k = over_at p h xs r.lockspace s t f is in
    let x = wrote_at p h xs run r there e writes in
    let same = writer_over p h xs run r there s e x writer k.session k.named.at in
    let own = own_write w r x.write x.work x.block in
    subst (λ n. n < t) x.step
    (over_wrote_before p h f.now f.rest f.run (sender_of x.write) k.found (found_of x.work.owned) (subst (λ i. IsSession (world_at p h f.now) i k.found) same k.its)
    (subst (λ ys. IsSession (world_at p h ys) (sender_of x.write) (found_of x.work.owned)) f.whole (owner_found w x.write x.work.owned)) k.joined
    (subst (λ i. is_over i k.found ≡ true) same k.over) x.write.course own.has own.writes own.other t f.begins)

ok_by : (done : Bool) (answered : Option Stamp) (a : ℕ) → elim done as (λ z. Option ℕ) [ true ↦ option_map (λ (s : Stamp). s.step) answered | false ↦ None ] ≡ Some a
    → (s : Stamp) × (answered ≡ Some s) × (s.step ≡ a)
ok_by false answered a is = absurd (none_some a is)
ok_by true None a is = absurd (none_some a is)
ok_by true (Some s) a is = (s, refl, some_value s.step a is)

at_last : (s a n t : ℕ) → s ≡ a → s < n → n ≤ t + 1 → a ≤ t
at_last s a n t e lt le = omega (arith, e, lt, le)

settled : (p : Program) (h : Header) (xs : List Happening) → LawfulRun p h xs → (r : ResourceLine) → Contains h.resources r → (s : Holder) (t e a : ℕ)
    → (history_of_line p h xs r).over s t ≡ true → (history_of_line p h xs r).writes e ≡ true → (history_of_line p h xs r).writer e ≡ s → (history_of_line p h xs r).ok e ≡ Some a → a ≤ t
settled p h xs run r there s t e a is writes writer ok =
    let w : World = world_at p h xs in
    let f = front_at p h xs run t in
    let k = over_at p h xs r.lockspace s t f is in
    let x = wrote_at p h xs run r there e writes in
    let same = writer_over p h xs run r there s e x writer k.session k.named.at in
    let own = own_write w r x.write x.work x.block in
    let told = ok_by x.write.course.done x.write.course.answered a
    (ap (option_and_then (λ (y : Sent). elim y.course.done as (λ z. Option ℕ) [ true ↦ option_map (λ (u : Stamp). u.step) y.course.answered | false ↦ None ])) (sym x.at) ∙ ok) in
    at_last told.0.step a (world_at p h f.now).step t told.2
    (over_are_settled p h f.now f.rest f.run (sender_of x.write) k.found (found_of x.work.owned) (subst (λ i. IsSession (world_at p h f.now) i k.found) same k.its)
    (subst (λ ys. IsSession (world_at p h ys) (sender_of x.write) (found_of x.work.owned)) f.whole (owner_found w x.write x.work.owned)) k.joined
    (subst (λ i. is_over i k.found ≡ true) same k.over) x.write.course own.has own.writes own.other told.0 told.1) f.begins

-- ---- all of it

pub histories_are_in_order : HistoriesAreInOrder
histories_are_in_order p h xs r run there =
    record {
      writers = writers p h xs run r there;
      readers = readers p h xs run r there;
      once = once p h xs run r;
      final = final p h xs run r;
      silent = silent p h xs run r there;
      settled = settled p h xs run r there;
    }
