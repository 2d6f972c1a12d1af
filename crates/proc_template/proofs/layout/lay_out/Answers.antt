use Rattle.proc_template.proofs.Layouts.{all_laid, numbers_ready}
use Rattle.proc_template.proofs.layout.lay_out.Goals as goal

pub push_blocks-requires : goal.push_blocks-requires
push_blocks-requires c = numbers_ready c.args.blocks.now c.args.passive.now c.in_ok-starts.starts c.as_slice.result.now c.as_slice-2.result.now c.as_slice.ensures (c.in_ok-starts.ensures {u = tt}) c.as_slice-2.ensures c.requires

pub returns : goal.returns
returns c =
    all_laid c.args.blocks.now c.args.passive.now c.in_ok-starts.starts c.as_slice.result.now c.in_ok-layout.layout c.push_blocks.new.roles c.as_slice-2.result.now c.as_slice.ensures (c.in_ok-starts.ensures {u = tt}) c.as_slice-2.ensures
    (c.in_ok-layout.ensures {u = tt}) (c.in_ok-push_blocks.ensures {u = tt})
