use Rattle.std.proofs.Common.{◌≡◌, take}
use Rattle.tree_words.specs.Linking.{formula}
use Rattle.tree_words.specs.Template.{view_by}
use Rattle.tree_words.specs.Reading.{children_by, track_by}
use Rattle.tree_words.proofs.reading.children.Given as goal

abbrev pub invariant-loop-site : goal.invariant-loop-site
invariant-loop-site l = l.list.items ≡ children_by l.changes l.slots l.q l.node (view_by (formula l.q track_by l.node) l.values) (take l.site-index l.sites)
