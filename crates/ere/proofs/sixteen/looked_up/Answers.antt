use Rattle.ere.proofs.LaneLemmas.{may_look_up, lanes_looked_up}
use Rattle.ere.proofs.sixteen.looked_up.Goals as goal

pub swizzle : goal.swizzle
swizzle c = may_look_up c.args.places c.fits-places.0 c.requires

pub returns : goal.returns
returns c = lanes_looked_up c.args.table c.args.places c.fits-places.0 c.requires
