use Rattle.sl_ballot.specs.Limits.{limited_block}
use Rattle.sl_lease.proofs.NextLaws.{lver-phase1_block}
use Rattle.sl_lease.proofs.RecordFacts.{hosts_few, phase1_begun}
use Rattle.sl_lease.proofs.owed.begin_above.Goals as goal
use Rattle.sl_lease.specs.LeaseQuestions.{block_showing, gen_with}
use Rattle.sl_lease.specs.Bounds.{IsBegun}
use Rattle.sl_trace.specs.Ballots.{phase1_block}
use Rattle.std.proofs.Common.{IfOk, [], cond, rules, subst, sym, ◌∷◌, ◌≡◌}

pub returns-clause-exact : goal.returns-clause-exact
returns-clause-exact c =
    c.phase1_next.ensures.exact (phase1_block c.args.side.now.me c.args.side.now.geometry.hosts c.args.n c.args.held.shared (gen_with c.args.side.now c.args.held) c.args.own.now (block_showing c.args.own.now c.args.n c.args.top ∷ []))
    (lver-phase1_block _ _ _ _ _ _ _) (search rules)

pub returns-clause-fit : goal.returns-clause-fit
returns-clause-fit c =
    λ is one.
    c.phase1_next.ensures.fit (phase1_block c.args.side.now.me c.args.side.now.geometry.hosts c.args.n c.args.held.shared (gen_with c.args.side.now c.args.held) c.args.own.now (block_showing c.args.own.now c.args.n c.args.top ∷ []))
    (lver-phase1_block _ _ _ _ _ _ _) (search rules)
    (λ fits.
    let block : c.phase1_block.result
    ≡ limited_block (phase1_block c.args.side.now.me c.args.side.now.geometry.hosts c.args.n c.args.held.shared (cond c.args.held.shared c.args.side.now.me.generation 0) c.args.own.now (block_showing c.args.own.now c.args.n c.args.top ∷ [])) = search rules in
    subst (λ r. IfOk r IsBegun) (sym block)
    (phase1_begun c.args.side.now.geometry c.args.side.now.me c.args.n c.args.held.shared c.args.own.now (block_showing c.args.own.now c.args.n c.args.top ∷ []) c.requires (hosts_few c.args.side.now.geometry c.hosts-hosts.ensures.geometry) one fits is))
