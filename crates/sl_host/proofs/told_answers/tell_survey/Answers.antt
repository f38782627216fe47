use Rattle.sl_member.specs.Members.{own_told}
use Rattle.sl_member.specs.HostMembers.{MembersState, changed_member, told_survey}
use Rattle.sl_trace.specs.declared.effects.Purpose.TheVariants.{Survey}
use Rattle.sl_trace.specs.declared.input.Answer.TheVariants.{Failed, Read}
use Rattle.sl_host.proofs.AnswersTold.{survey_changed}
use Rattle.sl_host.proofs.told_answers.tell_survey.Goals as goal
use Rattle.std.proofs.Common.{IsTrue, ap, length, subst, sym, ◌*◌, ◌∙◌, ◌≡◌}

pub surveyed-requires-clause-cut : goal.surveyed-requires-clause-cut
surveyed-requires-clause-cut g c =
    subst (λ r. IsTrue (g.S.Sectors.is_cut c.args.sectors.now r.sizes.sector)) (sym (ap (λ (v : MembersState). v.run) (c.own_answered.ensures Failed) ∙ ap (λ (v : MembersState). v.run) c.renewing_told.ensures)) c.requires.cut

pub surveyed-requires-clause-many : goal.surveyed-requires-clause-many
surveyed-requires-clause-many g c =
    subst (λ r. length (g.S.Sectors.bytes c.args.sectors.now) ≡ r.sizes.hosts * r.sizes.sector) (sym (ap (λ (v : MembersState). v.run) (c.own_answered.ensures Failed) ∙ ap (λ (v : MembersState). v.run) c.renewing_told.ensures)) c.requires.many

pub returns : goal.returns
returns g c =
    let n = c.args.call.now.session in
    let before = c.args.call.now.reading in
    let after = c.args.now in
    let bytes = g.S.Sectors.bytes c.args.sectors.now in
    let v : MembersState = c.args.members.now in
    c.surveyed.ensures
    ∙ (ap (λ (w : MembersState). record w { members = changed_member n (told_survey w.run before after bytes) w.members }) (c.own_answered.ensures (Read bytes))
    ∙ (ap (λ (w : MembersState). record w { members = changed_member n (told_survey w.run before after bytes) (changed_member n (own_told Survey (Read bytes) after) w.members) }) c.renewing_told.ensures
    ∙ ap (λ zs. record v { members = zs }) (survey_changed v.run n before after bytes c.args.begun c.shows_to-shows.result v.members c.order.ensures.apart c.shows_to-shows.ensures)))
