-- A comparison as the code has it, and as the definitions of floats have it.
use Prim.Native.Nat.{Ordering}
use Rattle.std.specs.declared.cmp.Ordering.{Ordering as Compared}
use Rattle.std.specs.declared.cmp.Ordering.TheVariants.{Less, Equal, Greater}

abbrev pub order : Compared → Ordering
order Less = Ordering.lt
order Equal = Ordering.eq
order Greater = Ordering.gt
