use Rattle.sl_ballot.specs.Limits.{limited_block}
use Rattle.sl_lease.proofs.NextLaws.{begins_with, lver-phase1_block}
use Rattle.sl_lease.proofs.RecordFacts.{hosts_few, phase1_begun}
use Rattle.sl_lease.proofs.lease.Lease.begin.Goals as goal
use Rattle.sl_lease.specs.Bounds.{IsBegun}
use Rattle.sl_lease.specs.Side.{known_with, place_of}
use Rattle.sl_trace.specs.Ballots.{phase1_block}
use Rattle.sl_words.specs.Words.{present}
use Rattle.std.proofs.Common.{IfOk, cond, rules, subst, sym, ◌∙◌, ◌≡◌}

pub returns-in-Some-clause-exact : goal.returns-in-Some-clause-exact
returns-in-Some-clause-exact c = λ over.
    begins_with (place_of c.args.side.now) (known_with c.args.side.now c.args.self.now c.args.held over c.args.read.now) c.args.aim c.args.n c.in-Some.own c.mode_gen-mode_gen.result c.phase1_next.result
    (sym c.own_known.ensures.exact ∙ c.in-Some.is) c.mode_gen-mode_gen.ensures
    (c.phase1_next.ensures.exact _ (lver-phase1_block _ _ _ _ _ _ _) (search rules))

pub returns-in-Some-clause-fit : goal.returns-in-Some-clause-fit
returns-in-Some-clause-fit c = λ one.
    c.phase1_next.ensures.fit _ (lver-phase1_block _ _ _ _ _ _ _) c.phase1_after_read.ensures
    (λ fits.
    let block : c.phase1_after_read.result
    ≡ limited_block (phase1_block c.args.side.now.me c.args.side.now.geometry.hosts c.args.n c.args.held.shared (cond c.args.held.shared c.args.side.now.me.generation 0) c.in-Some.own (present c.args.read.now)) = search rules in
    subst (λ r. IfOk r IsBegun) (sym block)
    (phase1_begun c.args.side.now.geometry c.args.side.now.me c.args.n c.args.held.shared c.in-Some.own _ c.requires.0 (hosts_few c.args.side.now.geometry c.hosts.ensures.geometry) one fits (c.in-Some.ensures.bounds c.requires.1)))
