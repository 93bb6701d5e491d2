-- Which test a prepared one is.
use Rattle.ere.specs.Tree.{form}
use Rattle.prepare.specs.declared.asked.Test.{Test as PreparedTest}
use Rattle.prepare.specs.Pattern.{Test}

abbrev pub test_of : PreparedTest → Test
test_of test = record { tree = form test.tree; inverted = test.inverted }
