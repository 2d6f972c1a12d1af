use Rattle.std.proofs.Common.{◌≡◌, ℕ, ◌<◌, ◌&&◌, nat_le, nat_lt, length, get_or, if◌then◌else◌}
use Rattle.extract_def.specs.declared.scope.Scope.TheVariants.{Whole, In}
use Rattle.loop_extract.proofs.scopes.fill.Given as goal

abbrev pub invariant-loop-block : goal.invariant-loop-block
invariant-loop-block l = record {
  size : length l.scopes.items ≡ length l.initial.scopes.items;
  filled : (n : ℕ) → n < length l.scopes.items → get_or l.scopes.items n Whole ≡ (if nat_le l.span.head n && nat_lt n l.block then In l.span.head l.span.exit else get_or l.initial.scopes.items n Whole);
}
