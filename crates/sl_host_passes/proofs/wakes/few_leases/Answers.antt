use Rattle.sl_host_passes.proofs.Spots.{among_few}
use Rattle.sl_host_passes.proofs.wakes.few_leases.Goals as goal

pub returns : goal.returns
returns c = among_few c.args.host.now.kept.members c.apart.ensures
