-- What a host is made of stays through one change after another.
use Rattle.sl_host.specs.Host.{HostView, SameRun}
use Rattle.std.proofs.Common.{refl, ◌∙◌}
use Rattle.std.specs.Prelude.{◌≡◌}

pub same_run : (v : HostView) → SameRun v v
same_run v = (refl, refl, (refl, refl, refl))

pub run_on : (a b c : HostView) → SameRun a b → SameRun b c → SameRun a c
run_on a b c x y = (y.0 ∙ x.0, y.1 ∙ x.1, (y.2.0 ∙ x.2.0, y.2.1 ∙ x.2.1, y.2.2 ∙ x.2.2))

pub same_config : (a b : HostView) → SameRun a b → b.kept.config ≡ a.kept.config
same_config a b x = x.0

pub same_reading : (a b : HostView) → SameRun a b → b.kept.reading ≡ a.kept.reading
same_reading a b x = x.1
