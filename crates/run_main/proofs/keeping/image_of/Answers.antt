use Rattle.std.proofs.Common.{List, ◌++◌, map, ap, subst, ◌∙◌}
use Rattle.far_base.specs.declared.kept.KeptItem.{KeptItem}
use Rattle.far_model.specs.Kept.{kept_records}
use Rattle.kept_image.specs.Meaning.{AreTold, IsImage, told_item}
use Rattle.run_main.proofs.keeping.image_of.Goals as goal

pub returns-in-Ok-clause-reads : goal.returns-in-Ok-clause-reads
returns-in-Ok-clause-reads g c = λ tells told.
    subst (λ (items : List KeptItem). AreTold items → IsImage c.in-Ok.text.items (map told_item items))
    (c.in_default.ensures.listed.told tells ∙ ap (λ (before : List KeptItem). before ++ kept_records c.args.world.now.state) c.new-items.ensures.items)
    c.in-Ok.ensures.reads told
