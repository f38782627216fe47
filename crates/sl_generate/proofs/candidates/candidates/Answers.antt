-- One kind of event after another.
use Rattle.sl_generate.proofs.CandidateLaws.{of_call, of_life, of_test, of_time, of_work}
use Rattle.sl_generate.proofs.candidates.candidates.Goals as goal
use Rattle.sl_generate.specs.Candidates.{call_candidates, life_candidates, time_candidates, work_event}
use Rattle.sl_machine.specs.KeptParts.{kept_state}
use Rattle.sl_play.specs.Plays.{state_of}
use Rattle.sl_run.specs.declared.event.Event.TheVariants.{Test}
use Rattle.sl_world_law.specs.DrawnCandidates.{least_call_in}
use Rattle.std.proofs.Common.{Bool, [], ap, arith, false, refl, tests, true, ◌%◌, ◌+◌, ◌==◌, ◌∙◌, ◌∷◌, ◌≡◌}
use Rattle.std.proofs.lemmas.Result.{IfOk-weaker}
use Rattle.std.specs.Prelude.{nat_lt}

pub returns-then-kind-lt2 : goal.returns-then-kind-lt2
returns-then-kind-lt2 g c =
    let k = (state_of g.L.LockTable.locks c.args.play.now).kept in
    let time : nat_lt (c.args.draw.b % 16) 2 ≡ true = grind (arith, tests, c.if-kind-lt2.true) in
    let hosts_are : c.header.result.now.machines ≡ k.header.machines = ap (λ h. h.machines) c.header.ensures ∙ ap (λ x. (kept_state g.L.LockTable.locks x.kept).header.machines) c.world.ensures in
    IfOk-weaker c.of_time.result _ _ (λ events is. is ∙ ap (time_candidates k) hosts_are ∙ of_time k k.header.machines c.args.draw.a c.args.draw.b c.args.draw.c c.args.number time) c.of_time.ensures

pub returns-then-kind-lt4 : goal.returns-then-kind-lt4
returns-then-kind-lt4 g c =
    let k = (state_of g.L.LockTable.locks c.args.play.now).kept in
    let time : nat_lt (c.args.draw.b % 16) 2 ≡ false = grind (arith, tests, c.if-kind-lt2.false) in
    let life : nat_lt (c.args.draw.b % 16) 4 ≡ true = grind (arith, tests, c.if-kind-lt4.true) in
    let hosts_are : c.from.result ≡ k.header.machines =
    c.from.ensures ∙ ap (λ h. h.machines) c.header.ensures ∙ ap (λ x. (kept_state g.L.LockTable.locks x.kept).header.machines) c.world.ensures in
    IfOk-weaker c.of_life.result _ _ (λ events is.
    is ∙ ap (λ h. life_candidates (1 + c.args.draw.a % h) c.args.number) hosts_are ∙ of_life k k.header.machines c.args.draw.a c.args.draw.b c.args.draw.c c.args.number time life) c.of_life.ensures

pub returns-then-kind-eq4 : goal.returns-then-kind-eq4
returns-then-kind-eq4 g c =
    let k = (state_of g.L.LockTable.locks c.args.play.now).kept in
    let time : nat_lt (c.args.draw.b % 16) 2 ≡ false = grind (arith, tests, c.if-kind-lt2.false) in
    let life : nat_lt (c.args.draw.b % 16) 4 ≡ false = grind (arith, tests, c.if-kind-lt4.false) in
    let test : (c.args.draw.b % 16 == 4) ≡ true = grind (arith, tests, c.if-kind-eq4.true) in
    let hosts_are : c.from.result ≡ k.header.machines =
    c.from.ensures ∙ ap (λ h. h.machines) c.header.ensures ∙ ap (λ x. (kept_state g.L.LockTable.locks x.kept).header.machines) c.world.ensures in
    IfOk-weaker c.only.result _ _ (λ events is.
    is ∙ ap (λ h. Test (1 + c.args.draw.a % h) ∷ []) hosts_are ∙ of_test k k.header.machines c.args.draw.a c.args.draw.b c.args.draw.c c.args.number time life test) c.only.ensures

pub returns-then-kind-lt12 : goal.returns-then-kind-lt12
returns-then-kind-lt12 g c =
    let k = (state_of g.L.LockTable.locks c.args.play.now).kept in
    let time : nat_lt (c.args.draw.b % 16) 2 ≡ false = grind (arith, tests, c.if-kind-lt2.false) in
    let life : nat_lt (c.args.draw.b % 16) 4 ≡ false = grind (arith, tests, c.if-kind-lt4.false) in
    let test : (c.args.draw.b % 16 == 4) ≡ false = grind (arith, tests, c.if-kind-eq4.false) in
    let ok : Bool = nat_lt (c.args.draw.b % 16) 11 in
    let last : ok ≡ false → (c.args.draw.b % 16 == 11) ≡ true = λ no. grind (arith, tests, c.if-kind-lt12.true, no) in
    let hosts_are : c.from.result ≡ k.header.machines =
    c.from.ensures ∙ ap (λ h. h.machines) c.header.ensures ∙ ap (λ x. (kept_state g.L.LockTable.locks x.kept).header.machines) c.world.ensures in
    IfOk-weaker c.of_call.result _ _ (λ events is.
    is
    ∙ ap (λ f. call_candidates (1 + c.args.draw.a % c.from.result) f ok)
    (c.least_call.ensures ∙ ap (λ x. least_call_in (kept_state g.L.LockTable.locks x.kept) (1 + c.args.draw.a % c.from.result)) c.world-then-kind-lt12.ensures)
    ∙ ap (λ h. call_candidates (1 + c.args.draw.a % h) (least_call_in k (1 + c.args.draw.a % h)) ok) hosts_are
    ∙ of_call k k.header.machines c.args.draw.a c.args.draw.b c.args.draw.c c.args.number time life test ok refl last) c.of_call.ensures

pub returns-in_ok-of_work : goal.returns-in_ok-of_work
returns-in_ok-of_work g c =
    let k = (state_of g.L.LockTable.locks c.args.play.now).kept in
    let time : nat_lt (c.args.draw.b % 16) 2 ≡ false = grind (arith, tests, c.if-kind-lt2.false) in
    let life : nat_lt (c.args.draw.b % 16) 4 ≡ false = grind (arith, tests, c.if-kind-lt4.false) in
    let test : (c.args.draw.b % 16 == 4) ≡ false = grind (arith, tests, c.if-kind-eq4.false) in
    let done : nat_lt (c.args.draw.b % 16) 11 ≡ false = grind (arith, tests, c.if-kind-lt12.false) in
    let fail : (c.args.draw.b % 16 == 11) ≡ false = grind (arith, tests, c.if-kind-lt12.false) in
    let hosts_are : c.from.result ≡ k.header.machines =
    c.from.ensures ∙ ap (λ h. h.machines) c.header.ensures ∙ ap (λ x. (kept_state g.L.LockTable.locks x.kept).header.machines) c.world.ensures in
    IfOk-weaker c.only-else-kind-lt12.result _ _ (λ events is.
    is ∙ ap (λ e. e ∷ []) c.in_ok-of_work.ensures ∙ ap (λ h. work_event (1 + c.args.draw.a % h) (c.args.draw.b % 16) c.args.draw.c ∷ []) hosts_are
    ∙ of_work k k.header.machines c.args.draw.a c.args.draw.b c.args.draw.c c.args.number time life test done fail) c.only-else-kind-lt12.ensures
