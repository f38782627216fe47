use Rattle.sl_host_state.specs.KeptState.{MemberState}
use Rattle.sl_words.proofs.Lists.{there_is}
use Rattle.sl_host.proofs.FoundInList.{none_found, one_found}
use Rattle.sl_host.proofs.ListScans.{find_here, find_more, find_none}
use Rattle.sl_host.proofs.told_answers.shows_any.Goals as goal
use Rattle.sl_host.specs.HeardAnswers.{shows_at}
use Rattle.std.proofs.Common.{Bool, arith, sym}

pub loop-place-preserved : goal.loop-place-preserved
loop-place-preserved g c =
    let ms = c.args.members.now.members in
    let p : MemberState → Bool = shows_at c.args.members.now.run (g.S.Sectors.bytes c.args.sectors.now) in
    let x = there_is ms c.loop-place.place (omega (arith, c.loop-place-test.true, c.len-place-end.ensures)) in
    find_more p ms c.loop-place.place x.0 x.1 c.loop-place.invariant (sym (c.if-shows_by_place.ensures x.0 x.1))

pub returns-then-shows_by_place : goal.returns-then-shows_by_place
returns-then-shows_by_place g c =
    let ms = c.args.members.now.members in
    let p : MemberState → Bool = shows_at c.args.members.now.run (g.S.Sectors.bytes c.args.sectors.now) in
    let x = there_is ms c.loop-place.place (omega (arith, c.loop-place-test.true, c.len-place-end.ensures)) in
    one_found p x.0 ms (sym (find_here p ms c.loop-place.place x.0 x.1 c.loop-place.invariant (sym (c.if-shows_by_place.ensures x.0 x.1))))

pub returns : goal.returns
returns g c =
    let ms = c.args.members.now.members in
    let p : MemberState → Bool = shows_at c.args.members.now.run (g.S.Sectors.bytes c.args.sectors.now) in
    none_found p ms (find_none p ms c.loop-place.place (omega (arith, c.loop-place-test.false, c.len-place-end.ensures)) c.loop-place.invariant)
